pub mod Refusals
pub mod ImageFaults
