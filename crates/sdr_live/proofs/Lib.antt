pub mod AtLockLemmas
