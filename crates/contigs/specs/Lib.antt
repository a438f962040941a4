pub mod Contigs
