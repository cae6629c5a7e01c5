pub mod HeadsLemmas
pub mod HeldLemmas
pub mod PlaceLemmas
pub mod UntoldLemmas
