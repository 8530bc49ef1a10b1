use Rattle.std.proofs.Common.{◌<◌, ◌∙◌, Some, ap, sym, arith}
use Rattle.xn_model.specs.Lives.{drops_of}
use Rattle.xn_model.specs.Calls.{first_pending, life_pending}
use Rattle.dependencies.specs.Pending.{claim_count}
use Rattle.dependencies.proofs.FirstEntries.{counts_more, counts_within}
use Rattle.dependencies.specs.Counts.{claim_drops, given}
use Rattle.dependencies.proofs.FirstDrops.{drops_more, given-append, none_more}
use Rattle.dependencies.proofs.counts.take_out.Goals as goal

pub discount_one-taken-requires : goal.discount_one-taken-requires
discount_one-taken-requires c =
    let o = Some c.args.life.now in
    λ fs few. omega (
      arith,
      ap (claim_count fs) c.claim-claim.ensures,
      counts_within fs c.loop-place.place c.args.count o c.loop-place-test.true c.requires.within,
      c.loop-place.invariant.pending fs few,
      c.requires.counted fs few,
    )

pub loop-place-preserved : goal.loop-place-preserved
loop-place-preserved c =
    let o = Some c.args.life.now in
    let within : c.loop-place.place < life_pending o = omega (arith, c.loop-place-test.true, c.requires.within) in
    let more = drops_more c.loop-place.place o within in
    record {
      pending = λ fs few. omega (
        arith,
        ap (claim_count fs) c.claim-claim.ensures,
        counts_more fs c.loop-place.place o within,
        c.loop-place.invariant.pending fs few,
        c.discount_one-taken.ensures fs few,
      );
      free = c.give_each-has_drops.ensures.free
          ∙ ((λ i. given (c.loop-place.invariant.free i) (claim_drops (c.claim-claim.ensures i)))
          ∙ (sym (given-append c.args.free.now (drops_of (first_pending c.loop-place.place o)) _) ∙ sym (ap (given c.args.free.now) more)));
      drops = none_more c.loop-place.taken.has_drops c.give_each-has_drops.result c.loop-place.place o _ within c.claim-claim.ensures c.loop-place.invariant.drops c.give_each-has_drops.ensures.drops;
    }
