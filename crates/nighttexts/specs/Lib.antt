pub mod Lines
pub mod Reports
pub mod Nights
pub mod Memories
