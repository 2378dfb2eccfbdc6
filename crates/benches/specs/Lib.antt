pub mod Held
pub mod Supplies
pub mod Passes
pub mod Benches
pub mod Views
pub mod Lawful
