pub mod Branches
pub mod CutPlaces
pub mod DroppedBlocks
pub mod RootPointers
pub mod MissingLeaves
