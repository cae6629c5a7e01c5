pub mod Cuts
pub mod Finding
pub mod Linking
pub mod Parting
pub mod Chain
pub mod Stripping
