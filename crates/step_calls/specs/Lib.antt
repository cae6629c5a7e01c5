pub mod Serving
pub mod Giving
