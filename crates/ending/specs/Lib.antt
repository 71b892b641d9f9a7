pub mod Behind
pub mod Before
pub mod Ledger
pub mod Printed
