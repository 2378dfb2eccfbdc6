pub mod Checks
pub mod LawfulCards
pub mod Logs
pub mod Entries
pub mod Rows
pub mod Mounting
pub mod Determinacy
