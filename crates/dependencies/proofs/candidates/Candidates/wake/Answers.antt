use Rattle.std.proofs.Common.{◌∙◌, None, ap, arith, inr, length, refl, subst, sym}
use Rattle.std.specs.Prelude.{true}
use Rattle.std.proofs.lemmas.List.{length-set}
use Rattle.dependencies.specs.Candidates.{CandidatesValue, Wakes}
use Rattle.dependencies.proofs.Accounts.{all_woken, fewer, one_woken, values}
use Rattle.dependencies.proofs.WaitChains.{within}
use Rattle.dependencies.proofs.candidates.Candidates.wake.Goals as goal

pub loop-block-init : goal.loop-block-init
loop-block-init c = (c.self.invariant, refl, λ k. inr (refl, refl))

pub insert-requires : goal.insert-requires
insert-requires c = omega (arith, within c.loop-block.self-inside.waits c.in-Some.block c.args.other c.in-Some.ensures.some.waited, c.loop-block.invariant.0)

pub loop-block-smaller : goal.loop-block-smaller
loop-block-smaller c = rw c.in-Some.ensures.some.now (fewer c.loop-block.self-inside.waits c.in-Some.block c.args.other c.in-Some.ensures.some.waited)

pub loop-block-preserved : goal.loop-block-preserved
loop-block-preserved c =
    let old = values c.self.inside.blocks c.self.inside.waits in
    let now = values c.loop-block.self-inside.blocks c.loop-block.self-inside.waits in
    let new = values c.insert.new.self c.pop.new.self in
    let keep = c.loop-block.invariant in
    let waits = ap length c.in-Some.ensures.some.now ∙ length-set c.loop-block.self-inside.waits c.in-Some.block None in
    let blocks = ap length c.insert.ensures ∙ length-set c.loop-block.self-inside.blocks c.in-Some.block true in
    (waits ∙ (keep.0 ∙ sym blocks), blocks ∙ keep.1, one_woken old now new c.args.other c.in-Some.block keep.0 c.insert.ensures c.in-Some.ensures.some keep.2)

pub invariant_of-self : goal.invariant_of-self
invariant_of-self c = rw c.in_default.ensures.same c.loop-block.invariant.0

pub returns : goal.returns
returns c =
    let same = c.in_default.ensures.same in
    let keep = c.loop-block.invariant in
    let woken = all_woken (values c.self.inside.blocks c.self.inside.waits) (values c.loop-block.self-inside.blocks c.loop-block.self-inside.waits) c.args.other keep.1 keep.2 c.in_default.ensures.none in
    rw same (subst (λ (old : CandidatesValue). Wakes old (values c.loop-block.self-inside.blocks c.loop-block.self-inside.waits) c.args.other) c.self.view_is woken)
