-- What crates above cite in their proofs. They import no other module of these proofs.
pub use Rattle.script.proofs.WordLists.{zip_push}
