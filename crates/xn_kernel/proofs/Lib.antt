pub mod Homes
pub mod Keeping
pub mod Draining
pub mod Flushing
pub mod WaveWrites
pub mod Newest
pub mod ForCallers
