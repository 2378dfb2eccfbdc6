pub mod Asked
pub mod Shapes
