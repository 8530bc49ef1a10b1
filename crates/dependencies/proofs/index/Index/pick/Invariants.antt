use Rattle.std.proofs.Common.{◌-◌}
use Rattle.xn_model.specs.Calls.{is_ready}
use Rattle.dependencies.proofs.Dirty.{FailsBelow}
use Rattle.dependencies.proofs.index.Index.pick.Given as goal

-- none below is ready
abbrev pub invariant-loop-from : goal.invariant-loop-from
invariant-loop-from l = FailsBelow (is_ready l.cache) l.cache l.from

abbrev pub decreases-loop-from : goal.decreases-loop-from
decreases-loop-from l = l.blocks - l.from
