use Rattle.std.proofs.Common.{◌≡◌, ◌++◌, drop}
use Rattle.treefs_mending.specs.Ends.{end_acts}
use Rattle.treefs_mending.proofs.ends.plan_ends.Given as goal

abbrev pub invariant-loop-name : goal.invariant-loop-name
invariant-loop-name l = l.acts.items ++ end_acts (drop l.name-index l.names) ≡ end_acts l.names
