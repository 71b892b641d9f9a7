-- The laws of the state.
pub mod Extent
pub mod Lookup
pub mod Passwords
pub mod Pages
pub mod Found
