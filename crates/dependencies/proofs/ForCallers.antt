-- What crates above cite in their proofs. They import no other module of these proofs.
pub use Rattle.dependencies.proofs.Counting.{FewFor, few_counted, least_is_free, marks}
pub use Rattle.dependencies.proofs.FirstEntries.{counted, counts_for, place_is}
pub use Rattle.dependencies.proofs.Waits.{root_has}
