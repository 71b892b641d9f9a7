-- The laws of the code that reads and writes slices.
pub mod States
pub mod Words
