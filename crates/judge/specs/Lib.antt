pub mod Search
pub mod Former
pub mod Pairs
pub mod Granting
pub mod Naming
pub mod Walk
pub mod Judged
pub mod Laws
