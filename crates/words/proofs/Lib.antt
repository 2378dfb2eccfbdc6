pub mod Counts
pub mod Limits
pub mod PlainNumbers
pub mod Taken
