pub mod Places
pub mod Sameness
pub mod Supplies
pub mod Sequences
pub mod Determinacy
pub mod Soundness
