pub mod Storing
pub mod ShortTables
