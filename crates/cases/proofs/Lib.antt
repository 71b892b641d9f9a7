pub mod Locks
pub mod Marked
