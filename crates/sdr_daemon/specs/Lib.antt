pub mod Coming
pub mod Drawing
pub mod Progressing
pub mod Scripts
pub mod TakingTurns
pub mod TurnEvents
pub mod Turns
pub mod Working
