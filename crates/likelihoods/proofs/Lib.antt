pub mod Tenth
pub mod NearTenths
pub mod Order
pub mod Loops
pub mod Greatest
pub mod NoneAbove
pub mod Written
