pub mod AnsweringLemmas
pub mod FormLemmas
