pub mod Stocks
pub mod Joining
pub mod Appending
pub mod Leaving
