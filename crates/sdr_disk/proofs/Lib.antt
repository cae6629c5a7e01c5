pub mod HistoryLemmas
pub mod ImageLemmas
pub mod KeptLemmas
pub mod LeftLemmas
pub mod MemoryDiskLemmas
pub mod MomentsLemmas
pub mod RangesLemmas
