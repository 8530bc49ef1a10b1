pub mod Kept
pub mod Sessions
pub mod Opening
pub mod Stopping
