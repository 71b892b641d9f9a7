pub mod Accessed
pub mod Laws
