use Rattle.std.proofs.Common.{◌<◌, ap, arith}
use Rattle.xn_model.specs.Lives.{life_at}
use Rattle.xn_model.specs.Calls.{life_pending}
use Rattle.dependencies.specs.Pending.{claim_count}
use Rattle.dependencies.proofs.FirstEntries.{counts_more, counts_within}
use Rattle.dependencies.proofs.counts.discount.Goals as goal

pub discount_one-fs-requires : goal.discount_one-fs-requires
discount_one-fs-requires c =
    let o = life_at c.args.cache.now c.args.block in
    λ fs few. omega (
      arith,
      ap (claim_count fs) c.claim.ensures,
      counts_within fs c.loop-place.place c.args.count o c.loop-place-test.true c.requires.within,
      c.loop-place.invariant fs few,
      c.requires.counted fs few,
    )

pub loop-place-preserved : goal.loop-place-preserved
loop-place-preserved c =
    let o = life_at c.args.cache.now c.args.block in
    let within : c.loop-place.place < life_pending o = omega (arith, c.loop-place-test.true, c.requires.within) in
    λ fs few. omega (
      arith,
      ap (claim_count fs) c.claim.ensures,
      counts_more fs c.loop-place.place o within,
      c.loop-place.invariant fs few,
      c.discount_one-fs.ensures fs few,
    )
