pub mod Contigs
pub mod WrittenList
