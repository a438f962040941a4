pub mod Picked
pub mod Fitting
pub mod Fronts
pub mod Subset
pub mod Alts
pub mod Assigned
pub mod UnusedAltSubsets
