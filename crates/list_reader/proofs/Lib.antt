pub mod Genotype
pub mod RecordChecks
pub mod RecordLines
pub mod Samples
