pub mod Asking
pub mod Going
pub mod Naming
pub mod Reading
pub mod Seeing
pub mod Sources
pub mod Stopping
