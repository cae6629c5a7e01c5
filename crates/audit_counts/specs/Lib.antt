pub mod Checked
pub mod Counted
pub mod Counts
pub mod Examples
pub mod Numbers
pub mod Occupied
pub mod Queues
pub mod Rules
