pub mod SampleValues
pub mod Rows
