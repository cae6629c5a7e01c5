pub mod AmountLemmas
pub mod BlocksTaken
pub mod Cases
pub mod DryLemmas
pub mod EntryLemmas
pub mod FewLemmas
pub mod FewSteps
mod HashExample
pub mod HashLemmas
pub mod MapLemmas
pub mod PiecesLemmas
pub mod SumLemmas
pub mod TableLemmas
pub mod ThingsLemmas
