pub mod Views
pub mod Mirrors
pub mod Below
pub mod Repairs
pub mod Laws
