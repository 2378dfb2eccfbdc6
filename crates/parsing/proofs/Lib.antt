pub mod Growing
pub mod Numbers
pub mod Sleeping
