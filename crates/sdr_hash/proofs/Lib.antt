pub mod BucketLemmas
pub mod KeptLemmas
mod ItemLemmas
mod OpenedLemmas
mod MadeLemmas
mod WalkLemmas
mod FindLemmas
mod LinkLemmas
mod ReachLemmas
mod AddLemmas
mod OutLemmas
mod ChangeLemmas
mod GiveLemmas
mod DestroyLemmas
