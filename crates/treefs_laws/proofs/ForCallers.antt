-- What crates above cite in their proofs. They import no other module of these proofs.

-- inodes without a number
pub use Rattle.treefs_laws.proofs.AsideVolume.{alike_same, read_keeps, unnamed_then}
pub use Rattle.treefs_laws.proofs.OwnSaid.{still_begun}
-- files without some orphans
pub use Rattle.treefs_laws.proofs.ReapedFiles.{among_or_not, is_orphan_or_not, orphan_then, reaped_same, reaped_then, reaped_weaker, reaped_without, without_gone}
-- what calls do
pub use Rattle.treefs_laws.proofs.AsideTimes.{times_keep}
pub use Rattle.treefs_laws.proofs.Beginning.{begun_no_file}
pub use Rattle.treefs_laws.proofs.BegunGrown.{begun_grown, begun_not_grown}
pub use Rattle.treefs_laws.proofs.BegunWritten.{begun_written}
pub use Rattle.treefs_laws.proofs.GivenUp.{given_said}
pub use Rattle.treefs_laws.proofs.Marked.{mark_said}
pub use Rattle.treefs_laws.proofs.ReapedCall.{reap_done, reap_said, reap_waits}
pub use Rattle.treefs_laws.proofs.SpaceLacked.{begin_refused}
pub use Rattle.treefs_laws.proofs.TruncatedOpen.{truncate_done, truncate_refused}
