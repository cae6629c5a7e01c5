pub mod CallsLemmas
pub mod GiveLemmas
pub mod GivenLemmas
pub mod NewLemmas
pub mod TakeLemmas
