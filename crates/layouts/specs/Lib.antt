pub mod Bytes
pub mod Shapes
pub mod Heads
pub mod Slots
pub mod Entries
