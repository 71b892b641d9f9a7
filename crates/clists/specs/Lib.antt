pub mod Clist
pub mod Opening
pub mod Laws
