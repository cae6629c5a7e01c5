pub mod BondedLemmas
pub mod ComponentLemmas
pub mod CallingLemmas
pub mod ChargeLemmas
pub mod KeepsLemmas
pub mod NamedLemmas
pub mod PassLemmas
pub mod SumBounds
