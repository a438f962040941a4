pub mod Along
pub mod Windowed
