pub mod Listed
pub mod Summing
pub mod SummaryText
pub mod Asking
pub mod Reading
pub mod Loading
