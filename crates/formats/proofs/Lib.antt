pub mod Fills
pub mod Formats
