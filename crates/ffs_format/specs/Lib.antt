pub mod Fields
pub mod Entries
pub mod Library
