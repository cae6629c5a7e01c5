pub mod Names
pub mod Kept
pub mod Walks
pub mod Calls
pub mod Links
pub mod Changes
