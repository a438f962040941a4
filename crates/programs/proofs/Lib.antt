pub mod FilesTaken
pub mod Programs
pub mod Looks
pub mod WholePrograms
