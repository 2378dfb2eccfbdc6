pub mod Numerals
pub mod Records
pub mod Words
pub mod Asks
pub mod Cards
pub mod Scripts
