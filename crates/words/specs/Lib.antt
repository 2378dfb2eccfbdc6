pub mod Words
pub mod Numerals
pub mod Lists
