pub mod Head
pub mod Alleles
pub mod SiteValues
pub mod OwnSamples
pub mod WholeRecords
