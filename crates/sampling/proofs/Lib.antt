pub mod SlotLaws
pub mod SampleLaws
pub mod AnswerLaws
pub mod ViewLaws
