pub mod Laying
pub mod Joined
pub mod NumberList
pub mod Lines
pub mod StoredDigits
pub mod ShortNumbers
pub mod Copying
