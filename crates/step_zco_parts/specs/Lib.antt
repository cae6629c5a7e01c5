pub mod BondAnswering
pub mod Stripping
pub mod Giving
pub mod PartAnswering
