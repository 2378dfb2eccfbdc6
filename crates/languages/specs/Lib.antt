pub mod Texts
pub mod Expecting
pub mod Scripts
pub mod Transcripts
