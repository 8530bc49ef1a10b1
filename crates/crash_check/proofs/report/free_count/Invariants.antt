use Rattle.std.proofs.Common.{◌≡◌, ◌≤◌, length}
use Rattle.image_model.specs.Walk.{free_list}
use Rattle.crash_check.proofs.report.free_count.Given as goal

abbrev pub invariant-loop-number : goal.invariant-loop-number
invariant-loop-number l = record {
  counted : l.free ≡ length (free_list l.number l.named.entries);
  few : l.free ≤ l.number;
}
