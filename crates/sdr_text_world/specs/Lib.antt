pub mod AccountText
pub mod Example
pub mod Occupied
pub mod ThingText
pub mod Tied
pub mod WorldText
