-- The letter:
pub mod Letters
pub mod LetterPlaces
-- The letter of the sites' own REFs:
pub mod Reached
-- The sites that start at the position:
pub mod Starting
-- REF:
pub mod Refs
