mod DelimitLemmas
mod LinkLemmas
mod WholeLemmas
mod WalkLemmas
mod CountLemmas
mod SourceLemmas
mod CopyLemmas
mod AskedLemmas
pub mod CloneLemmas
mod RowsOfParts
