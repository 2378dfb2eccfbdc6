pub mod Soundness
pub mod Nights
pub mod Determinacy
