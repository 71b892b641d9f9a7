pub mod Charged
pub mod Seen
pub mod Steps
pub mod Start
pub mod Theorem
pub mod Slots
pub mod Consequences
