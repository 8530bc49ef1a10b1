-- What crates above cite in their proofs. They import no other module of these proofs.
pub use Rattle.disk.proofs.BlockAt.{block_at-append_front, block_at-append_last, block_at-take}
pub use Rattle.disk.proofs.Held.{filled-count, filled-empty, filled-each}
