pub mod Floors
pub mod Flushers
pub mod Hubs
