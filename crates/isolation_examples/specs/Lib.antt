pub mod Tests
pub mod Decided
pub mod Compared
pub mod Shown
pub mod Holds
pub mod Needed
pub mod Accounts
pub mod Behind
