pub mod ObjectAnswering
pub mod Destroying
pub mod AccountAnswering
