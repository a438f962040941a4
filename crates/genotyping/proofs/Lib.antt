pub mod Least
pub mod OneReading
