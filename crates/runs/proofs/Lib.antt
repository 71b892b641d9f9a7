pub mod Ledger
pub mod Unbooted
