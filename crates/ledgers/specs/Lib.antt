pub mod Ledgers
pub mod Candidates
