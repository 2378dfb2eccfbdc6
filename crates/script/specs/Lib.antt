pub mod Texts
pub mod Plans
pub mod Shown
pub mod Calls
pub mod Outcomes
