mod Told
pub mod Seeking
