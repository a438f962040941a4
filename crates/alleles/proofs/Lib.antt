pub mod FieldLoop
pub mod Checked
