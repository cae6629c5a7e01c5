pub mod BoundsLemmas
pub mod CappedLemmas
