pub mod Ascending
pub mod FirstSites
pub mod Insertion
pub mod Ordered
pub mod Stored
