use Rattle.std.proofs.Common.{arith, ◌∙◌, ap}
use Rattle.treefs_mending.specs.Tallies.{padded}
use Rattle.treefs_mending.proofs.Padded.{padded_more}
use Rattle.treefs_mending.proofs.tally.pad.Goals as goal

pub loop-tallies-preserved : goal.loop-tallies-preserved
loop-tallies-preserved c =
    let few = c.loop-tallies-test.true in
    ap (λ l. padded l c.args.count) c.in_ok-push.ensures.items
    ∙ (padded_more c.loop-tallies.tallies.items c.args.count (omega (arith, few, c.len.ensures)) ∙ c.loop-tallies.invariant)
