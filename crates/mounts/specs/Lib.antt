pub mod Reads
pub mod Mounts
pub mod Parts
