pub mod Kept
pub mod LibraryTypes
