pub mod Dropping
pub mod FreedInodes
pub mod Refused
pub mod Orphans
