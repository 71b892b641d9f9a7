pub mod Partway
