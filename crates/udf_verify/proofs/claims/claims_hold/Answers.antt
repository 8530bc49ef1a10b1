use Rattle.std.proofs.Common.{◌+◌, ◌&&◌, ap, sym, ◌∙◌, drop, arith, ◌<◌, ◌≤◌}
use Rattle.std.proofs.lemmas.Bool.{lt-leb, le-leb}
use Rattle.udf_verify.specs.Bounds.{are_kept}
use Rattle.udf_verify.specs.Intervals.{high_of}
use Rattle.udf_verify.proofs.Claimed.{keep_at, keep_only, high_at}
use Rattle.udf_verify.proofs.claims.claims_hold.Goals as goal
use Rattle.udf_verify.proofs.claims.claims_hold.Goals.{in-Keep+else-high-most, in_default}

pub returns-then-high-most : goal.returns-then-high-most
returns-then-high-most c = λ claims e.
    let k = keep_at _ claims _ _ _ _ _ e c.loop-word-test.true c.word-item.is c.in-Keep.is in
    let high = high_at _ _ _ _ _ c.told-intervals c.index.ensures.in_range c.index.ensures.value c.high.ensures.value in
    let above : c.in-Keep.most < high_of c.args.intervals.now c.in-Keep.a = omega arith in
    sym (sym (c.loop-word.invariant claims e) ∙ ap (λ l. are_kept l c.args.intervals.now) k ∙ ap (λ b. b && are_kept (drop (c.loop-word.word-index + 1) claims) c.args.intervals.now) (lt-leb _ _ above))

pub loop-word-preserved : goal.loop-word-preserved
loop-word-preserved c = λ claims e.
    elim c.match-word.branch [
      | in-Keep+else-high-most w ↦
          let k = keep_at _ claims _ _ _ _ _ e c.loop-word-test.true c.word-item.is w.in-Keep.is in
          let high = high_at _ _ _ _ _ c.told-intervals w.index.ensures.in_range w.index.ensures.value w.high.ensures.value in
          let below : high_of c.args.intervals.now w.in-Keep.a ≤ w.in-Keep.most = omega (arith, w.if-high-most.false) in
          sym (ap (λ l. are_kept l c.args.intervals.now) k ∙ ap (λ b. b && are_kept (drop (c.loop-word.word-index + 1) claims) c.args.intervals.now) (le-leb _ _ below)) ∙ c.loop-word.invariant claims e
      | in_default w ↦ absurd (keep_only _ claims _ _ _ e c.loop-word-test.true c.word-item.is w.in_default.not-Keep)
    ]
