pub mod ReadCalls
pub mod CardCalls
pub mod Parts
pub mod Restarts
pub mod Determinacy
