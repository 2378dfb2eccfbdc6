pub mod HeadLaws
pub mod Spans
pub mod SlotLaws
pub mod EntryLaws
