use Rattle.std.proofs.Common.{◌-◌}
use Rattle.dependencies.specs.Pending.{pends}
use Rattle.dependencies.proofs.Dirty.{FailsBelow}
use Rattle.dependencies.proofs.after.pending_somewhere.Given as goal

-- it is pending in none below
abbrev pub invariant-loop-from : goal.invariant-loop-from
invariant-loop-from l = FailsBelow (pends l.number) l.cache l.from

abbrev pub decreases-loop-from : goal.decreases-loop-from
decreases-loop-from l = l.blocks - l.from
