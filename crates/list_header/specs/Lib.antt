pub mod HeaderNames
pub mod Measured
