pub mod Words
pub mod Codes
pub mod Tree
pub mod Reading
pub mod Structure
pub mod Bytes
pub mod Decoding
pub mod Faults
