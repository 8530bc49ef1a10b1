pub mod Meaning
pub mod Openings
pub mod Safe
pub mod Remains
pub mod ReadSets
pub mod SlotRows
pub mod Known
