pub mod Both
pub mod Calls
pub mod Frame
pub mod Gap
pub mod Giving
pub mod Steps
