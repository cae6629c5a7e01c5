pub mod Kept
pub mod Buckets
pub mod Calls
pub mod Opened
pub mod Walks
pub mod Changes
pub mod Giving
pub mod Destroying
