mod NameLemmas
mod WalkLemmas
mod FindLemmas
mod EntryLemmas
mod LinkLemmas
mod ChangeLemmas
mod TakenLemmas
mod OutLemmas
