pub mod Calls
pub mod Naming
pub mod Targets
