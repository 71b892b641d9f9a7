pub mod Listed
pub mod Rising
