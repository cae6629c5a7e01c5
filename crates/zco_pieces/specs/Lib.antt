pub mod Places
pub mod Bytes
pub mod Cutting
pub mod Adding
pub mod Finishing
pub mod Runs
