use Rattle.std.proofs.Common.{◌+◌, ap, sym, ◌∙◌, drop}
use Rattle.std.specs.Prelude.{slice_set}
use Rattle.udf_verify.specs.Bounds.{claimed}
use Rattle.udf_verify.specs.Intervals.{between}
use Rattle.udf_verify.proofs.Claimed.{keep_at, keep_only}
use Rattle.udf_verify.proofs.claims.claim.Goals as goal
use Rattle.udf_verify.proofs.claims.claim.Goals.{in-Keep, in_default}

pub loop-word-preserved : goal.loop-word-preserved
loop-word-preserved c = λ claims e.
    elim c.match-word.branch [
      | in-Keep w ↦
          let k = keep_at _ claims _ _ _ _ _ e c.loop-word-test.true c.word-item.is w.in-Keep.is in
          ap (λ l. claimed (drop (c.loop-word.word-index + 1) claims) l) (w.intervals-is ∙ ap (λ v. slice_set c.loop-word.intervals w.index.result v) w.new.ensures ∙ ap (λ r. slice_set c.loop-word.intervals r (between 0 w.in-Keep.most)) w.index.ensures.value)
          ∙ sym (ap (λ l. claimed l c.loop-word.intervals) k) ∙ c.loop-word.invariant claims e
      | in_default w ↦ absurd (keep_only _ claims _ _ _ e c.loop-word-test.true c.word-item.is w.in_default.not-Keep)
    ]
