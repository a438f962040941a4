pub mod Folded
pub mod Gq
