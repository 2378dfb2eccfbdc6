pub mod Calls
pub mod Determinacy
pub mod Mends
pub mod Steady
pub mod Steps
