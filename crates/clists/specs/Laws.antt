-- The laws of Clists and of live capabilities.
pub mod Live
pub mod Ends
pub mod Lists
pub mod Listed
