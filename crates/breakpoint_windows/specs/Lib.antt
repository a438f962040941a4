pub mod Breakpoints
pub mod Contig
pub mod Fillings
