pub mod Setups
pub mod Stages
pub mod Pasts
pub mod Laws
