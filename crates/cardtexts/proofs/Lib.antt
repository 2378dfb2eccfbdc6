pub mod Hexadecimals
pub mod SlotTexts
mod NamedKinds
