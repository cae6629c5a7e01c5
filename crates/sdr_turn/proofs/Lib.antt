pub mod EntryLemmas
pub mod Sums
pub mod ViewLemmas
pub mod Changes
pub mod StepLemmas
pub mod GiveLemmas
pub mod EndLemmas
pub mod SeatLemmas
