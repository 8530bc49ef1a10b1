pub mod Written
pub mod Standing
pub mod KnownTemplates
pub mod Turns
pub mod OwnedPairs
