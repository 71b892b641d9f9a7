-- The laws of soundness: what a sound state is made of, and which changes keep it sound.
pub mod Tests
pub mod Zeros
pub mod Reach
pub mod Distinct
pub mod DomainParts
pub mod ObjectParts
pub mod StateParts
pub mod Order
pub mod Unused
pub mod Frames
pub mod Domains
pub mod Passwords
pub mod Objects
pub mod Estates
pub mod Found
pub mod OneTable
