pub mod Meanings
pub mod Outcomes
pub mod Admission
pub mod Calls
pub mod Places
