pub mod Answering
pub mod Sorting
