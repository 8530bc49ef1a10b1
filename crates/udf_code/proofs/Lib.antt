pub mod Read
pub mod Structures
pub mod WordBytes
pub mod Coding
pub mod Steps
pub mod Faults
pub mod Stops
pub mod ForCallers
