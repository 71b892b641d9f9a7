pub mod Modes
pub mod Bits
pub mod Laws
pub mod Table
