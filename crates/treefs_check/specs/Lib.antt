pub mod Findings
pub mod Names
pub mod Inodes
pub mod Checking
