pub mod PlaceLemmas
pub mod BytesLemmas
pub mod CutLemmas
pub mod FillLemmas
pub mod RunLemmas
pub mod CutLawLemmas
pub mod AddLemmas
mod RowsOfPieces
