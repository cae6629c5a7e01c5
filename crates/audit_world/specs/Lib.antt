pub mod Told
pub mod Standing
pub mod ToldPools
pub mod Made
