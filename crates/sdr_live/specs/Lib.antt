pub mod AtLock
pub mod Posted
