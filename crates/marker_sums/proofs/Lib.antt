pub mod Steps
pub mod MetWeights
