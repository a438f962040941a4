pub mod Storing
pub mod Mapped
pub mod Rows
pub mod Filled
pub mod Best
pub mod Said
pub mod Lines
