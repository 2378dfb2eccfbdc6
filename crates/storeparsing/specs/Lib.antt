pub mod Calls
pub mod Lines
pub mod Lists
pub mod Scripts
pub mod Stacks
