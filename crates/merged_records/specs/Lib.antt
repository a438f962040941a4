pub mod Loaded
pub mod Found
