-- The laws of a call through C.
pub mod Stored
pub mod Changed
pub mod Concluded
pub mod Refused
