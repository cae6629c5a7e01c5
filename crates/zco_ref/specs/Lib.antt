pub mod Kept
pub mod Going
pub mod Seeing
pub mod Making
pub mod Naming
pub mod Counting
pub mod Dropping
