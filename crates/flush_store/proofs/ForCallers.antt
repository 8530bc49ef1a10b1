-- What crates above cite in their proofs. They import no other module of these proofs.
pub use Rattle.flush_store.proofs.Kept.{always, refused_keep, waves_keep}
