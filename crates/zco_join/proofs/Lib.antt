pub mod TurnLemmas
pub mod TicketLemmas
pub mod WholeLemmas
pub mod SourceLemmas
pub mod CountedLemmas
pub mod ClonesLemmas
pub mod AppendLemmas
pub mod ExtendLemmas
pub mod DestroyLemmas
mod PassedLemmas
pub mod DestroyedLemmas
pub mod AppendedLemmas
pub mod JoinLemmas
pub mod JoinedLemmas
