pub mod Groups
pub mod ThreeLines
pub mod Places
