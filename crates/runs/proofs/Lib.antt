pub mod Turns
mod Going
