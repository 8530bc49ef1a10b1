-- What crates above cite in their proofs. They import no other module of these proofs.
pub use Rattle.durable_floor.proofs.Lists.{zeros_at}
