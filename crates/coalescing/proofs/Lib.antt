pub mod HeldBlocks
pub mod Laying
pub mod Touching
pub mod StepLaws
