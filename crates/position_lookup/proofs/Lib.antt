pub mod Merged
pub mod Holding
pub mod Reaching
pub mod Searching
pub mod Giving
