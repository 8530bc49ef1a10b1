pub mod Owners
pub mod Owned
pub mod Decided
