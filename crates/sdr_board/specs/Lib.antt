pub mod Known
pub mod Plays
pub mod Posted
pub mod Totals
pub mod Views
