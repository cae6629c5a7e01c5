pub mod Answering
pub mod CodedRun
pub mod Memory
pub mod MemoryRun
pub mod Plain
