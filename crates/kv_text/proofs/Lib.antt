pub mod Tested
pub mod Fields
pub mod Numbers
pub mod Digits
pub mod Lines
pub mod Places
pub mod Groups
pub mod Split
