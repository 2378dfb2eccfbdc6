pub mod TwoDigits
pub mod Pairs
pub mod Found
pub mod Takings
