pub use Rattle.xn_state.specs.Events
pub mod Disks
pub mod Worlds
pub mod Works
pub mod WorldDisks
pub mod Opened
