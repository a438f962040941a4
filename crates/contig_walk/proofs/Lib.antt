pub mod OwnRows
pub mod Behind
pub mod LaidRecords
pub mod Turns
