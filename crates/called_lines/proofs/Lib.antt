pub mod SampleValues
pub mod Alts
pub mod Rows
pub mod Called
pub mod SoundCalled
