pub mod Texts
pub mod Rebuilding
