pub mod Slices
pub mod Lengths
pub mod Laws
