pub mod Laid
pub mod Keyed
