pub mod Views
pub mod Calls
