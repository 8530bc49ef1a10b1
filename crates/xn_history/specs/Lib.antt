pub mod Histories
pub mod Moments
pub mod Promises
pub mod Rows
