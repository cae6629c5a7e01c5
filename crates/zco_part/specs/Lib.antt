pub mod Delimiting
pub mod Pieces
pub mod Walking
pub mod Sources
pub mod Charging
pub mod Naming
pub mod Copying
pub mod Cloning
