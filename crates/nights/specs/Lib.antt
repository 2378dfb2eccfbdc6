pub mod Nights
pub mod Stacks
