pub mod Adding
pub mod Along
pub mod Reach
