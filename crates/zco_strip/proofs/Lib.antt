mod FindLemmas
mod LinkLemmas
mod CutLaws
mod CutLemmas
mod EndLemmas
mod PartLaws
mod ChainChanges
mod ChainLemmas
mod PlaceLemmas
mod PartingLemmas
mod PartedLemmas
pub mod OutsideLaws
mod SpanLemmas
mod StripLemmas
mod RowsOfParts
