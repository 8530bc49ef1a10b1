use Rattle.std.proofs.Common.{◌<◌, ap, ◌∙◌, arith, length, false, true}
use Rattle.std.specs.Prelude.{slice_index_or, slice_set}
use Rattle.udf_verify.proofs.Widening.{widened_step}
use Rattle.udf_verify.proofs.written.forget.Goals as goal
use Rattle.udf_verify.proofs.written.forget.Goals.{then-written-r, else-written-r}

pub loop-r-preserved : goal.loop-r-preserved
loop-r-preserved c =
    let within : c.loop-r.r < length c.args.intervals.now = omega (arith, c.told-intervals, c.loop-r-test.true) in
    elim c.if-written-r.branch [
      | then-written-r w ↦ w.intervals-is ∙ ap (λ v. slice_set c.loop-r.intervals c.loop-r.r v) w.new.ensures ∙ widened_step (λ r. slice_index_or c.args.written.now r false) c.loop-r.r _ _ true c.loop-r.invariant within w.if-written-r.true
      | else-written-r w ↦ w.intervals-is ∙ widened_step (λ r. slice_index_or c.args.written.now r false) c.loop-r.r _ _ false c.loop-r.invariant within w.if-written-r.false
    ]
