pub mod Words
pub mod Kept
pub mod Tickets
pub mod Walks
pub mod Refusals
pub mod Charges
pub mod Changes
