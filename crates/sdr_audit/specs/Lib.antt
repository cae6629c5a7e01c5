pub mod Errors
pub mod Census
pub mod Checked
pub mod WorldChains
