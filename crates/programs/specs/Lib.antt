pub mod Programs
pub mod WholePrograms
