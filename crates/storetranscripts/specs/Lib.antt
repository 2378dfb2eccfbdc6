pub mod Lines
pub mod Transcripts
