pub mod Draws
pub mod Samples
pub mod Answers
