pub mod Served
pub mod Links
pub mod Located
pub mod Places
pub mod Requests
pub mod Shreds
