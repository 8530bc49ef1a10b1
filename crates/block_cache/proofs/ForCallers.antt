-- What crates above cite in their proofs. They import no other module of these proofs.
pub use Rattle.block_cache.proofs.Freed.{first_more}
pub use Rattle.block_cache.proofs.Named.{pointer_none}
