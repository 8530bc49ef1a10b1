pub mod Undo
pub mod Pieces
pub mod Kept
pub mod Limits
