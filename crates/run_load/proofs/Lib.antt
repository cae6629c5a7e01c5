pub mod AskingLemmas
pub mod ElementLemmas
pub mod FoundLemmas
pub mod LoadingLemmas
pub mod ReadingLemmas
pub mod ReplyLemmas
