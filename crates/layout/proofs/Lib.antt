pub mod Bytes
pub mod Arrays
