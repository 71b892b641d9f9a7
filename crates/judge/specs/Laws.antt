-- The laws of the judgement. First and Verdicts are about the search, and are not for the crates above.
pub mod Pairs
mod First
mod Verdicts
pub mod Exactly
pub mod Changed
pub mod Local
pub mod Grant
pub mod Behind
