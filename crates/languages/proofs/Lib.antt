pub mod Expecting
pub mod Last
pub mod Readings
pub mod Printings
