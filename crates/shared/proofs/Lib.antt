pub mod Floors
pub mod Keeping
pub mod Turns
