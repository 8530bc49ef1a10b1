use Rattle.std.proofs.Common.{◌≡◌, ◌-◌, ◌<◌, ◌≤◌, ◌∙◌, length, sym, arith}
use Rattle.xn_model.specs.Lives.{chain_end, climb}
use Rattle.claims.specs.Owned.{owner_in}
use Rattle.claims.proofs.Climbing.{climb_stops, climb_on, climb_ends}
use Rattle.claims.proofs.chains.chain_end.Goals as goal

pub loop-init : goal.loop-init
loop-init c =
    let all : length c.args.cache.now - 0 ≡ length c.args.cache.now = omega arith in
    λ i. climb (all i) c.args.cache.now c.args.block

pub returns-in-None : goal.returns-in-None
returns-in-None c =
    let none = (λ i. owner_in (sym c.facts.ensures.facts i)) ∙ (sym c.owner_in.ensures ∙ c.in-None.is) in
    sym (climb_stops c.args.cache.now (length c.args.cache.now - c.loop.counter) c.loop.at none) ∙ c.loop.invariant

pub loop-preserved : goal.loop-preserved
loop-preserved c =
    let owner = (λ i. owner_in (sym c.facts.ensures.facts i)) ∙ (sym c.owner_in.ensures ∙ c.in-Some.is) in
    let within : c.loop.counter < length c.args.cache.now = omega (arith, c.loop-test.true, c.blocks-end.ensures) in
    climb_on c.args.cache.now (length c.args.cache.now) c.loop.counter c.loop.at c.in-Some.owner (chain_end c.args.cache.now c.args.block) within owner c.loop.invariant

pub returns : goal.returns
returns c =
    let past : length c.args.cache.now ≤ c.loop.counter = omega (arith, c.loop-test.false, c.blocks-end.ensures) in
    climb_ends c.args.cache.now (length c.args.cache.now) c.loop.counter c.loop.at (chain_end c.args.cache.now c.args.block) past c.loop.invariant
