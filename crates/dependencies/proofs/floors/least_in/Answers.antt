use Rattle.std.proofs.Common.{◌<◌, ◌∙◌, sym, arith}
use Rattle.xn_model.specs.Lives.{least_to, life_at}
use Rattle.xn_model.specs.Calls.{life_pending}
use Rattle.dependencies.specs.Pending.{claim_entries}
use Rattle.dependencies.proofs.FirstEntries.{claims_more}
use Rattle.dependencies.proofs.floors.least_in.Goals as goal

pub loop-place-preserved : goal.loop-place-preserved
loop-place-preserved c =
    let o = life_at c.args.cache.now c.args.block in
    let within : c.loop-place.place < life_pending o = omega (arith, c.loop-place-test.true, c.pending-place-end.ensures.count) in
    c.least_with-least.ensures
    ∙ ((λ i. least_to (c.loop-place.invariant i) (claim_entries c.args.fs.number (c.claim.ensures i))) ∙ sym (claims_more c.args.most c.args.fs.number c.loop-place.place o within))
