pub mod Alts
pub mod SoundSites
