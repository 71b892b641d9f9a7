-- The laws over lists of calls.
pub mod Others
pub mod Kept
pub mod Added
pub mod WholeLock
pub mod Figure
pub mod Ledger
pub mod Unbooted
