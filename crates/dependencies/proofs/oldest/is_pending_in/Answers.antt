use Rattle.std.proofs.Common.{◌∙◌, sym, arith}
use Rattle.xn_model.specs.Lives.{life_at}
use Rattle.dependencies.proofs.OldestEntries.{all_entries, entries_more, entry_found}
use Rattle.dependencies.proofs.oldest.is_pending_in.Goals as goal

pub returns-then-is_for_at : goal.returns-then-is_for_at
returns-then-is_for_at c = sym (entry_found c.args.fs.number (life_at c.args.cache.now c.args.block) c.loop-place.place c.args.number (sym c.is_for_at.ensures ∙ c.if-is_for_at.true))

pub loop-place-preserved : goal.loop-place-preserved
loop-place-preserved c =
    entries_more c.args.fs.number (life_at c.args.cache.now c.args.block) c.loop-place.place c.args.number c.loop-place.invariant (sym c.is_for_at.ensures ∙ c.if-is_for_at.false)

pub returns : goal.returns
returns c =
    sym c.loop-place.invariant
    ∙ all_entries c.args.fs.number (life_at c.args.cache.now c.args.block) c.loop-place.place c.args.number (omega (arith, c.loop-place-test.false, c.pending-place-end.ensures.count))
