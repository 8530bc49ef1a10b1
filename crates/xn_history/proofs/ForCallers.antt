-- What crates above cite in their proofs. They import no other module of these proofs.
pub use Rattle.xn_history.proofs.Laws.{image_holds}
pub use Rattle.xn_history.proofs.Moments.{moment_after, moment_knows, run_heard}
