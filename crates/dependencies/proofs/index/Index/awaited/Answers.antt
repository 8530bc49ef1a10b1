use Rattle.std.proofs.Common.{◌<◌, ◌∙◌, ap, arith, subst, sym}
use Rattle.std.specs.Prelude.{is_some}
use Rattle.xn_model.specs.Lives.{life_at}
use Rattle.xn_model.specs.Calls.{life_pending}
use Rattle.dependencies.proofs.Awaiting.{waits, awaited_there, safe_here, none_awaited}
use Rattle.dependencies.proofs.Prefixes.{safe_more}
use Rattle.dependencies.specs.Index.{IsIndex}
use Rattle.dependencies.proofs.index.Index.awaited.Goals as goal

pub unmet_at-requires-clause-homes : goal.unmet_at-requires-clause-homes
unmet_at-requires-clause-homes c =
    let mine = subst (IsIndex c.args.cache.now) (sym c.self.view_is) c.requires.index in
    mine.homes

pub returns-in-Some : goal.returns-in-Some
returns-in-Some c =
    let lives = c.args.cache.now in
    let awaited = awaited_there lives c.args.block c.loop-place.place c.in-Some.other c.requires.typed (omega (arith, c.loop-place-test.true, c.pending-place-end.ensures.count)) c.loop-place.invariant
    (sym c.unmet_at.ensures ∙ c.in-Some.is) in
    record { block = awaited; waits = ap (λ o. is_some o) awaited ∙ waits lives (life_at lives c.args.block) }

pub loop-place-preserved : goal.loop-place-preserved
loop-place-preserved c =
    let lives = c.args.cache.now in
    let within : c.loop-place.place < life_pending (life_at lives c.args.block) = omega (arith, c.loop-place-test.true, c.pending-place-end.ensures.count) in
    let safe = safe_here lives c.args.block c.loop-place.place c.requires.typed within (sym c.in_default.is ∙ c.unmet_at.ensures) in
    let more = safe_more lives (life_at lives c.args.block) c.loop-place.place within safe in
    let here = c.loop-place.invariant in
    omega (arith, more, here)

pub returns : goal.returns
returns c =
    let lives = c.args.cache.now in
    let awaited = none_awaited lives c.args.block c.loop-place.place (omega (arith, c.loop-place-test.false, c.pending-place-end.ensures.count)) c.loop-place.invariant in
    record { block = awaited; waits = ap (λ o. is_some o) awaited ∙ waits lives (life_at lives c.args.block) }
