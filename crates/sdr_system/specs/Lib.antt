pub mod Heads
pub mod Held
pub mod HeldFeed
pub mod Place
pub mod Untold
