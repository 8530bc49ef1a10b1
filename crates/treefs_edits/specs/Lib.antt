pub mod Kinds
pub mod Memories
pub mod Missing
pub mod Plans
pub mod Rooms
pub mod Written
