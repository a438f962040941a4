pub mod Head
pub mod Samples
pub mod Records
