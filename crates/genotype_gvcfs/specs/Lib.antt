pub mod Walk
pub mod Called
