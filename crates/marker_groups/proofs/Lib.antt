pub mod Values
pub mod Find
pub mod Afters
pub mod MarkerGroup
pub mod Rows
pub mod Reading
