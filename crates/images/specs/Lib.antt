pub mod Images
pub mod Blocks
