pub mod Walk
pub mod Laying
