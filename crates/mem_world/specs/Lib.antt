pub mod Allowed
pub mod Calling
pub mod Keeps
pub mod Uses
