use Rattle.std.proofs.Common.{◌≡◌, ◌+◌, ◌*◌, ◌^◌, ◌<◌, ◌++◌}
use Rattle.treefs_byte_plans.specs.Runs.{attach_acts}
use Rattle.treefs_byte_plans.proofs.writing_run.push_attach_acts.Given as goal

abbrev pub invariant-loop-left : goal.invariant-loop-left
invariant-loop-left l = record {
  within : l.offset + 64 * l.left < 2 ^ 16;
  joined : l.acts.items ++ attach_acts l.left l.holder l.offset l.rest ≡ l.fn.acts.items ++ attach_acts l.edits l.holder l.fn.offset l.leaves;
}

abbrev pub decreases-loop-left : goal.decreases-loop-left
decreases-loop-left l = l.left
