-- What crates above cite in their proofs. They import no other module of these proofs.
pub use Rattle.world.proofs.Formats.{fresh_world, no_fault}
pub use Rattle.world.proofs.Mounting.{held_image}
pub use Rattle.world.proofs.Openings.{opened_disk, opened_image}
