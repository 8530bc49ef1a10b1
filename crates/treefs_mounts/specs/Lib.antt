pub mod Flushing
pub mod Closing
pub mod Passes
pub mod Opening
