pub mod Traces
pub mod SampleBlocks
pub mod RowWrites
