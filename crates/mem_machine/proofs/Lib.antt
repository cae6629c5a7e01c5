pub mod AnsweringLemmas
pub mod BoundLaws
pub mod MemoryLemmas
pub mod RunLemmas
