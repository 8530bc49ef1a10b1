use Rattle.std.proofs.Common.{◌<◌, ap, arith}
use Rattle.xn_model.specs.Lives.{life_at}
use Rattle.xn_model.specs.Calls.{life_pending}
use Rattle.dependencies.specs.Pending.{claim_count}
use Rattle.dependencies.proofs.FirstEntries.{counts_more}
use Rattle.dependencies.proofs.floors.count_in.Goals as goal

pub loop-place-preserved : goal.loop-place-preserved
loop-place-preserved c =
    let o = life_at c.args.cache.now c.args.block in
    let fs = c.args.fs.number in
    let within : c.loop-place.place < life_pending o = omega (arith, c.loop-place-test.true, c.pending-place-end.ensures.count) in (
      omega (arith, ap (claim_count fs) c.claim.ensures, counts_more fs c.loop-place.place o within, c.loop-place.invariant.0, c.count_one-count.ensures.count),
      omega (arith, c.loop-place.invariant.1, c.count_one-count.ensures.few),
    )
