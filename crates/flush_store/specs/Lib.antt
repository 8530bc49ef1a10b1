pub use Rattle.xn_kernel.specs.FlushedStates
pub mod Written
