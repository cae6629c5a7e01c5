pub mod NamingLemmas
pub mod GoingLemmas
pub mod StoppingLemmas
pub mod WalkLemmas
pub mod SeeingLemmas
pub mod SourceLemmas
pub mod PartLemmas
pub mod HeadLemmas
pub mod WireLemmas
pub mod AnswerLemmas
mod RowsOfReads
