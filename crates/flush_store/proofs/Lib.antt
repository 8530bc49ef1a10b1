mod Told
pub mod Kept
pub mod ForCallers
