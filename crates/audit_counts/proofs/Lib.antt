pub mod ChargesLemmas
pub mod CountedLemmas
pub mod CountsLemmas
pub mod LawLemmas
pub mod OrderLemmas
pub mod QueuesLemmas
pub mod RulesLemmas
