pub mod FileTexts
pub mod LaidDigits
pub mod Printing
