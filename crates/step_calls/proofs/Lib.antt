pub mod KeptLemmas
pub mod CutLemmas
pub mod DemandLemmas
pub mod GivingLemmas
