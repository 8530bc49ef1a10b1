use Rattle.std.proofs.Common.{◌≡◌, false}
use Rattle.std.specs.Prelude.{slice_index_or}
use Rattle.udf_verify.proofs.Widening.{widened}
use Rattle.udf_verify.proofs.written.forget.Given as goal

abbrev pub invariant-loop-r : goal.invariant-loop-r
invariant-loop-r l = l.intervals ≡ widened (λ r. slice_index_or l.written r false) 0 l.r l.initial.intervals
