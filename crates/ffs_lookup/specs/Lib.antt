pub mod Newest
pub mod Places
pub mod Faults
pub mod Counts
pub mod Repairs
pub mod Files
pub mod FileValues
