pub mod Inserts
pub mod Commits
pub mod Refreshes
pub mod Worked
