pub mod RootLemmas
pub mod ServedLemmas
mod ServingLemmas
mod ServesLemmas
mod LinesLemmas
mod LinkLemmas
mod PlaceLemmas
mod EnterLemmas
mod OutLemmas
pub mod FindLemmas
mod RequestLemmas
mod ShredLemmas
mod ServedRows
mod RequestRows
