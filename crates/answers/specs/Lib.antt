pub mod Answered
pub mod Options
