use Rattle.xn_model.proofs.ForCallers.{init_keeps}
use Rattle.treefs_values.proofs.BegunRead.{begun_kind, begun_kinds, begun_reads, still_volume}
use Rattle.treefs_values.proofs.law.begun_blocks_are_of_no_file.Goals as goal

pub returns-clause-read : goal.returns-clause-read
returns-clause-read c = λ T old new h fs ty bytes block entry done. (
  (init_keeps T old h fs ty bytes (block, entry) new done).consistent,
  begun_kind T old new h fs ty bytes block entry done,
  begun_reads T old new h fs ty bytes block entry done,
  begun_kinds T old new h fs ty bytes block entry done,
)

pub returns-clause-files : goal.returns-clause-files
returns-clause-files c = λ T old new h fs ty bytes block entry done node inode top few tree root v whole bare.
    still_volume T old new h fs ty bytes block entry done node inode top few tree root v whole bare
