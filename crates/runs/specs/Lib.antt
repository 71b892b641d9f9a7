pub mod WholeLock
pub mod Ledger
pub mod Laws
