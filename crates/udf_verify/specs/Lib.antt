pub mod Intervals
pub mod Bounds
pub mod Verdict
pub mod Layout
pub mod Program
pub mod Checks
pub mod Surveyed
pub mod Names
