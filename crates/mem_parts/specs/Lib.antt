pub mod Bounds
pub mod Capped
pub mod Components
pub mod Marks
pub mod Refusals
pub mod Rooms
pub mod Sides
