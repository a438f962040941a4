pub mod Walking
pub mod Places
pub mod Counting
pub mod Whole
