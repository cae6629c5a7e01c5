pub mod Beginnings
pub mod ReaderSteps
pub mod Rules
pub mod TotalsLemmas
pub mod TotalsRows
pub mod WriterSteps
