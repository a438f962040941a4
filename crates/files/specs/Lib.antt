pub mod FileTexts
pub mod Printing
