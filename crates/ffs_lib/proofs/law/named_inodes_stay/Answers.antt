use Rattle.std.proofs.Common.{sym, ◌∙◌}
use Rattle.ffs_lookup.proofs.ForCallers.{given_up}
use Rattle.ffs_lib.proofs.StagedRepairs.{named_left}
use Rattle.ffs_lib.proofs.ValueRepairs.{count_is, need_is}
use Rattle.ffs_lib.proofs.law.named_inodes_stay.Goals as goal

pub returns : goal.returns
returns c = λ old new fs n left named. named_left old new fs n (λ e. named (sym (count_is old fs n) ∙ (given_up old fs n (need_is old fs n ∙ e)).none)) left
