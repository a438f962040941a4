pub mod Alleles
