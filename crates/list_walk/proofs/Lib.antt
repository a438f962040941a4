pub mod MissingGroups
pub mod Steps
pub mod Headings
