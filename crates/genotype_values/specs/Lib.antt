pub mod Values
pub mod Remapped
