pub mod Counts
pub mod MemoryMedia
