pub mod Places
pub mod Extent
pub mod Lookup
pub mod Update
pub mod Pages
pub mod Laws
