pub mod JournalLemmas
