use Rattle.std.proofs.Common.{◌∙◌, ap, subst, sym, arith}
use Rattle.std.specs.Option.{option_copied}
use Rattle.xn_model.specs.Lives.{life_at}
use Rattle.xn_model.specs.Calls.{life_pending}
use Rattle.block_cache.specs.declared.life.Facts.{Facts}
use Rattle.dependencies.proofs.Prefixes.{safe_all, safe_more, safe_stop}
use Rattle.dependencies.specs.Index.{IsIndex}
use Rattle.dependencies.proofs.index.Index.safe_prefix.Goals as goal

pub is_safe_at-requires-clause-homes : goal.is_safe_at-requires-clause-homes
is_safe_at-requires-clause-homes c =
    let mine = subst (IsIndex c.args.cache.now) (sym c.self.view_is) c.requires.index in
    mine.homes

pub returns-then-not-is_safe_at-clause-count : goal.returns-then-not-is_safe_at-clause-count
returns-then-not-is_safe_at-clause-count c =
    let stop = safe_stop c.args.cache.now (life_at c.args.cache.now c.args.block) c.loop-place.place (omega (arith, c.loop-place-test.true, ap (λ (f : Facts). f.pending) c.facts-pending.ensures.facts, ap life_pending (sym c.requires.life ∙ ap option_copied c.in-Some.is))) (sym c.is_safe_at.ensures ∙ c.if-not-is_safe_at.true) in
    let here = c.loop-place.invariant in
    omega (arith, stop, here)

pub loop-place-preserved : goal.loop-place-preserved
loop-place-preserved c =
    let more = safe_more c.args.cache.now (life_at c.args.cache.now c.args.block) c.loop-place.place (omega (arith, c.loop-place-test.true, ap (λ (f : Facts). f.pending) c.facts-pending.ensures.facts, ap life_pending (sym c.requires.life ∙ ap option_copied c.in-Some.is))) (sym c.is_safe_at.ensures ∙ c.if-not-is_safe_at.false) in
    let here = c.loop-place.invariant in
    omega (arith, more, here)

pub returns-clause-count : goal.returns-clause-count
returns-clause-count c =
    let o = life_at c.args.cache.now c.args.block in
    let all = safe_all c.args.cache.now o c.loop-place.place (omega (arith, c.loop-place-test.false, ap (λ (f : Facts). f.pending) c.facts-pending.ensures.facts, ap life_pending (sym c.requires.life ∙ ap option_copied c.in-Some.is))) in
    omega (arith, all, c.loop-place.invariant, c.loop-place-test.false, ap (λ (f : Facts). f.pending) c.facts-pending.ensures.facts, ap life_pending (sym c.requires.life ∙ ap option_copied c.in-Some.is))
