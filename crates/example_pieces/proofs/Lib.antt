pub mod NodeLemmas
