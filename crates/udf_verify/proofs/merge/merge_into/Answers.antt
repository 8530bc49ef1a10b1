use Rattle.std.proofs.Common.{◌≡◌, ◌<◌, sym, ◌∙◌, arith, length}
use Rattle.udf_verify.specs.Intervals.{Interval, join}
use Rattle.udf_verify.proofs.Merging.{merged_step}
use Rattle.udf_verify.proofs.merge.merge_into.Goals as goal

pub loop-r-preserved : goal.loop-r-preserved
loop-r-preserved c =
    let x : Interval = c.index-intervals-r.result in
    let y : Interval = c.index-other-r.result in
    let joined : c.new.result ≡ join x y = cc (c.new.ensures, c.min.ensures, c.max.ensures, c.low.ensures.value, c.low-in-loop-r.ensures.value, c.high.ensures.value, c.high-in-loop-r.ensures.value, c.index-intervals-r.is, c.index-other-r.is) in
    let even : length c.args.intervals.now ≡ length c.args.other.now = c.told-intervals ∙ sym c.told-other in
    let within : c.loop-r.r < length c.args.intervals.now = omega (arith, c.told-intervals, c.loop-r-test.true) in
    merged_step _ _ _ _ x y _ c.loop-r.invariant within even c.index-intervals-r.is c.index-other-r.is joined
