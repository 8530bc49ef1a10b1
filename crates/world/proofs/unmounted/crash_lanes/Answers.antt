use Rattle.std.proofs.Common.{◌∙◌, ◌<◌, ◌≤◌, length, ap, arith}
use Rattle.std.proofs.lemmas.List.{length-set}
use Rattle.world.proofs.Crashing.{one_crashed, all_crashed, more_long}
use Rattle.world.proofs.unmounted.crash_lanes.Goals as goal

pub loop-block-preserved : goal.loop-block-preserved
loop-block-preserved g c =
    let l = c.loop-block in
    let b = l.block-counter in
    let long = l.invariant.2 in
    let more = c.loop-block-test.true in
    let within : b < length l.lanes = omega arith in
    let next = c.crash_lane.ensures.crashed in (
      one_crashed c.args.kept.now c.args.lanes.now l.lanes c.crash_lane.new.lanes b c.contains.result within c.contains.ensures.value l.invariant.0 next,
      more_long l.lanes c.crash_lane.new.lanes b _ next c.crash_lane.ensures.long l.invariant.1,
      ap length next ∙ (length-set l.lanes b _ ∙ long),
    )

pub returns-clause-crashed : goal.returns-clause-crashed
returns-clause-crashed g c =
    let done = c.loop-block-test.false in
    let long = c.loop-block.invariant.2 in
    let count = c.loop-block.invariant.0.count in
    let past : length c.args.lanes.now ≤ c.loop-block.block-counter = omega arith in
    all_crashed c.args.kept.now c.args.lanes.now c.loop-block.lanes c.loop-block.block-counter past c.loop-block.invariant.0

pub returns-clause-long : goal.returns-clause-long
returns-clause-long g c = λ b lt.
    let done = c.loop-block-test.false in
    let long = c.loop-block.invariant.2 in
    c.loop-block.invariant.1 b (omega arith)
