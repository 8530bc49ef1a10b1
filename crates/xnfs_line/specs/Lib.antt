pub mod Words
pub mod Shells
pub mod Lines
