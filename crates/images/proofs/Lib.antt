pub mod Determinacy
