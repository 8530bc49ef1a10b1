pub mod Blocks
pub mod Images
pub mod Lanes
pub mod Mem
pub mod OpenWrites
pub mod Plans
