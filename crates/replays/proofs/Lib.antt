pub mod Runs
pub mod Determinacy
