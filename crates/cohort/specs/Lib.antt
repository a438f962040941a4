pub mod Cohort
