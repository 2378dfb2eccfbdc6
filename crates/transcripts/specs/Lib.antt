pub mod Cards
pub mod Transcripts
