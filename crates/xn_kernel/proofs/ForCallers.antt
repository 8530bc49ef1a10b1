-- What crates above cite in their proofs. They import no other module of these proofs.
pub use Rattle.xn_kernel.proofs.Draining.{idle_from, set_twice}
pub use Rattle.xn_kernel.proofs.Homes.{away_in_flight}
pub use Rattle.xn_kernel.proofs.Newest.{nothing_left, refused_goes, refused_state, waves_go, waves_of_state}
