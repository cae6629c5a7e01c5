mod KeptLemmas
mod MadeLemmas
mod RowLemmas
