pub mod Cards
pub mod Verdicts
pub mod Memories
pub mod Lawful
pub mod Progress
