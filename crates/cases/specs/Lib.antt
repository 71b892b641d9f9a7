pub mod Runs
pub mod Marked
pub mod Nested
pub mod Locks
pub mod WholeLock
pub mod Ends
pub mod Denials
pub mod Accounts
