pub mod Codec
pub mod Number
pub mod Pair
pub mod Array
pub mod Laid
pub mod Loop
pub mod Anew
