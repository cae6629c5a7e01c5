pub mod ChargeLemmas
pub mod ExampleLemmas
pub mod SmallLemmas
pub mod TiedLemmas
