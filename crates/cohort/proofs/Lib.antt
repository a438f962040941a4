pub mod FirstGroups
pub mod Contigs
pub mod Numbers
pub mod Rows
pub mod Sites
pub mod Whole
