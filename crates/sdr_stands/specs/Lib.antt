pub mod Example
pub mod Rows
pub mod Shape
pub mod Standing
pub mod Ties
