pub mod Endings
pub mod ClipCount
pub mod InOrder
pub mod Trimmed
pub mod TrimmedList
