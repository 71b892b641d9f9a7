-- The laws of the values.
pub mod Valued
