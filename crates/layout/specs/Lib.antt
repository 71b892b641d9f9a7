pub mod Layout
pub mod Sizes
pub mod Whole
pub mod Laws
