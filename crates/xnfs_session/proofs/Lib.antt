pub mod Flushed
pub mod Opening
pub mod Looks
mod ByKind
mod Taken
