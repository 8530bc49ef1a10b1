use Rattle.std.proofs.Common.{◌≡◌, ◌+◌, List, ap, sym, ◌∙◌, drop, true, false, arith, ◌<◌, ◌≤◌, get_or}
use Rattle.std.specs.Prelude.{slice_set}
use Rattle.udf_code.specs.Tree.{Claim}
use Rattle.udf_verify.specs.Bounds.{claims_row, no_register}
use Rattle.udf_verify.specs.Intervals.{high_of}
use Rattle.udf_verify.proofs.Claimed.{keep_at, keep_only, high_at}
use Rattle.udf_verify.proofs.ClaimRows.{row_taken, row_high, row_fine}
use Rattle.udf_verify.proofs.claims.check_claims.Goals as goal
use Rattle.udf_verify.proofs.claims.check_claims.Goals.{then-taken-register-via-then-taken-register, then-taken-register-via-else-taken-register+then-high-most, in-Keep+else-taken-register+else-high-most, in_default}

pub loop-i-init : goal.loop-i-init
loop-i-init c = λ claims e.
    let z : c.args.at + 0 ≡ c.args.at = omega arith in
    ap (λ n. claims_row n (slice_set no_register c.index.result true) claims c.args.intervals.now) z ∙ ap (λ r. claims_row c.args.at (slice_set no_register r true) claims c.args.intervals.now) c.index.ensures.value

pub returns-then-taken-register : goal.returns-then-taken-register
returns-then-taken-register c = λ claims e.
    let k = keep_at _ claims _ _ _ _ _ e c.loop-i-test.true c.index-words-i.is c.in-Keep.is in
    let row = λ (l : List Claim). claims_row (c.args.at + c.loop-i.i) c.loop-i.taken l c.args.intervals.now in
    sym (c.loop-i.invariant claims e) ∙ ap row k ∙
    elim c.then-taken-register.branch [
      | then-taken-register-via-then-taken-register w ↦ row_taken (c.args.at + c.loop-i.i) c.loop-i.taken c.in-Keep.a c.in-Keep.most (drop (c.loop-i.i + 1) claims) c.args.intervals.now (sym (ap (λ r. get_or c.loop-i.taken r false) c.index-register.ensures.value) ∙ w.if-taken-register.true)
      | then-taken-register-via-else-taken-register+then-high-most w ↦
          let high = high_at c.args.intervals.now _ _ _ _ c.told-intervals c.index-register.ensures.in_range c.index-register.ensures.value w.high.ensures.value in
          let above : c.in-Keep.most < high_of c.args.intervals.now c.in-Keep.a = omega (arith, w.if-high-most.true) in
          row_high (c.args.at + c.loop-i.i) c.loop-i.taken c.in-Keep.a c.in-Keep.most (drop (c.loop-i.i + 1) claims) c.args.intervals.now above
    ]

pub loop-i-preserved : goal.loop-i-preserved
loop-i-preserved c = λ claims e.
    elim c.match-word.branch [
      | in-Keep+else-taken-register+else-high-most w ↦
          let k = keep_at _ claims _ _ _ _ _ e c.loop-i-test.true c.index-words-i.is w.in-Keep.is in
          let row = λ (l : List Claim). claims_row (c.args.at + c.loop-i.i) c.loop-i.taken l c.args.intervals.now in
          let high = high_at c.args.intervals.now _ _ _ _ c.told-intervals w.index-register.ensures.in_range w.index-register.ensures.value w.high.ensures.value in
          let below : high_of c.args.intervals.now w.in-Keep.a ≤ w.in-Keep.most = omega (arith, w.if-high-most.false) in
          let free = sym (ap (λ r. get_or c.loop-i.taken r false) w.index-register.ensures.value) ∙ w.if-taken-register.false in
          let next = ap (λ t. claims_row (c.args.at + (c.loop-i.i + 1)) t (drop (c.loop-i.i + 1) claims) c.args.intervals.now) (w.taken-is ∙ ap (λ r. slice_set c.loop-i.taken r true) w.index-register.ensures.value) in
          let moved : c.args.at + c.loop-i.i + 1 ≡ c.args.at + (c.loop-i.i + 1) = omega arith in
          next ∙ sym (ap (λ n. claims_row n (slice_set c.loop-i.taken w.in-Keep.a true) (drop (c.loop-i.i + 1) claims) c.args.intervals.now) moved) ∙ sym (row_fine (c.args.at + c.loop-i.i) c.loop-i.taken w.in-Keep.a w.in-Keep.most (drop (c.loop-i.i + 1) claims) c.args.intervals.now free below) ∙ sym (ap row k) ∙ c.loop-i.invariant claims e
      | in_default w ↦ absurd (keep_only _ claims _ _ _ e c.loop-i-test.true c.index-words-i.is w.in_default.not-Keep)
    ]
