pub mod Back
pub mod Lines
