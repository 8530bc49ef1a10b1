pub mod Leading
pub mod Slashes
