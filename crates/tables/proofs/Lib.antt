pub mod Cleared
pub mod ContigNumbers
pub mod NumberLists
pub mod Parts
pub mod SameContig
pub mod SameSites
pub mod Stored
pub mod StoredLists
