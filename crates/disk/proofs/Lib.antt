pub mod BlockAt
pub mod Held
pub mod SliceGet
pub mod ForCallers
