pub mod Called
pub mod Changed
pub mod Laws
