pub mod DaemonsLemmas
pub mod FollowLemmas
pub mod LeftLemmas
pub mod ReadingLemmas
mod RoundExamples
pub mod RoundLemmas
pub mod StatementLemmas
