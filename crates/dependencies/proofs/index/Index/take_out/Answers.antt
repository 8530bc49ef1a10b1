use Rattle.std.proofs.Common.{◌≡◌, ◌∙◌, ◌+◌, ◌-◌, ◌<◌, ℕ, ap, arith, subst, sym}
use Rattle.std.specs.Option.{option_copied}
use Rattle.std.specs.Prelude.{count_by, nat_lt, slice_index, slice_set}
use Rattle.xn_model.specs.Lives.{drops_of}
use Rattle.xn_model.specs.Calls.{first_pending, life_pending}
use Rattle.block_cache.specs.declared.life.Facts.{Facts}
use Rattle.dependencies.specs.Candidates.{with_candidate}
use Rattle.dependencies.specs.Counts.{given}
use Rattle.dependencies.specs.Index.{IsIndex}
use Rattle.dependencies.proofs.Counting.{settled_less}
use Rattle.dependencies.proofs.FirstEntries.{counts_for}
use Rattle.dependencies.proofs.IndexChanges.{settled_free, settled_index}
use Rattle.dependencies.proofs.index.Index.take_out.Goals as goal

pub returns-in_default-clause-index : goal.returns-in_default-clause-index
returns-in_default-clause-index c = λ may.
    settled_free c.args.cache.now _ c.args.block c.args.count (sym c.requires.life ∙ ap option_copied c.in_default.is) c.requires.index

pub take_out-taken-requires-clause-counted : goal.take_out-taken-requires-clause-counted
take_out-taken-requires-clause-counted c =
    let mine = subst (IsIndex c.args.cache.now) (sym c.self.view_is) c.requires.index in
    let there = sym c.requires.life ∙ ap option_copied c.in-Some.is in
    λ fs few. omega (
      arith,
      ap (λ o. count_by (counts_for fs) (first_pending c.args.count o)) there,
      settled_less fs c.args.cache.now c.args.block c.args.count,
      mine.counted.counts fs few,
    )

pub returns-clause-index : goal.returns-clause-index
returns-clause-index c = λ may.
    let mine = subst (IsIndex c.args.cache.now) (sym c.self.view_is) c.requires.index in
    let there = sym c.requires.life ∙ ap option_copied c.in-Some.is in
    let block = c.args.block in
    let count = c.args.count in
    let same = ap (λ (f : Facts). f.pending) c.facts.ensures.facts ∙ sym (ap life_pending there) in
    let dirty = c.mark.ensures ∙ ap (λ n. slice_set c.self.inside.dirty block (nat_lt 0 (n - count))) same in
    let set = c.set.ensures ∙ ap (λ n. with_candidate c.wake.new.self block (nat_lt 0 (n - count))) same in
    let free = c.take_out-taken.ensures.free ∙ ap (λ o. given c.self.inside.free (drops_of (first_pending count o))) (sym there) in
    let counts = subst
    (λ o. (fs : ℕ) → fs < 32 → slice_index c.take_out-taken.new.pending fs + count_by (counts_for fs) (first_pending count o) ≡ slice_index c.self.inside.pending fs)
    (sym there) c.take_out-taken.ensures.pending in
    rw (free, dirty, set) (settled_index c.args.cache.now _ block count c.take_out-taken.new.pending c.wake.new.self mine may counts c.wake.ensures)
