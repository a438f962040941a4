pub mod LetterAlleles
pub mod CommonEnding
