pub mod RecordLines
pub mod Samples
pub mod RecordChecks
