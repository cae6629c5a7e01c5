pub mod KeptLemmas
mod LinkLemmas
mod GapLemmas
mod InsertLemmas
mod PlaceLemmas
mod DeleteLemmas
pub mod KeyLemmas
mod WalkLemmas
mod InOrderLemmas
mod OrderedLemmas
pub mod GivingLemmas
mod DestroyLemmas
