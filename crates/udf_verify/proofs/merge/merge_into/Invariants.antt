use Rattle.std.proofs.Common.{◌≡◌, ◌++◌, take, drop}
use Rattle.udf_verify.specs.Intervals.{merge}
use Rattle.udf_verify.proofs.merge.merge_into.Given as goal

abbrev pub invariant-loop-r : goal.invariant-loop-r
invariant-loop-r l = (l.intervals ≡ merge (take l.r l.initial.intervals) (take l.r l.other) ++ drop l.r l.initial.intervals)
