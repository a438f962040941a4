pub mod HeaderLines
pub mod TwoPasses
