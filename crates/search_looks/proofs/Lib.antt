pub mod AskedContig
pub mod Figure
