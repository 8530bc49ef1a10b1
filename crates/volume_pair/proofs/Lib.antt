pub mod Crashed
pub mod Fresh
pub mod InstalledTypes
pub mod Kept
pub mod LibraryTypes
pub mod Remounts
pub mod Rounds
