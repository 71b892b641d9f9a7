pub mod Past
pub mod Shifts
