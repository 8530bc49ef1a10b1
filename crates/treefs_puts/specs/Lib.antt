pub mod Begun
pub mod Writing
