pub mod Entries
pub mod OwnSites
