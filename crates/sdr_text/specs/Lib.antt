pub mod Refused
pub mod Text
pub mod JournalText
pub mod TotalsText
