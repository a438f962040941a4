pub mod Readings
pub mod First
pub mod Numbers
pub mod Places
pub mod Fields
pub mod Indexes
