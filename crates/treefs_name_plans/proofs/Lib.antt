pub mod Below
pub mod Cases
pub mod Names
pub mod PendingBuckets
pub mod Placed
pub mod Within
