pub mod Fresh
pub mod Bonded
pub mod Rows
pub mod Texts
pub mod Placing
pub mod Chaining
pub mod Charging
pub mod Bonding
