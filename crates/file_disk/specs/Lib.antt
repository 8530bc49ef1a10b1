pub mod File
pub mod Opened
