use Rattle.std.proofs.Common.{◌≡◌, ◌∙◌, ℕ, ◌≤◌, [], ap, arith, length, min, refl, subst, sym}
use Rattle.std.specs.Slice.Iter.{chunks_rest, chunks_size}
use Rattle.tree_puts.specs.Holes.{first_unwritten, parts, part_end, piece_stretches, stretches}
use Rattle.tree_puts.proofs.Arrivals.{each_failed}
use Rattle.tree_puts.proofs.Holes.{StretchesSoFar, all_stretches, first_later, first_of_file, left_open, no_stretches, none_next, part_ends, part_stays}
use Rattle.tree_puts.proofs.Holes.{some_stretches, zeros_next}
use Rattle.tree_puts.proofs.Performed.{by_plan}
use Rattle.tree_puts.proofs.sparse.write_piece.Goals as goal
use Rattle.tree_puts.proofs.sparse.write_piece.Goals.{then-at-eq0, else-at-eq0}

pub loop-part-init : goal.loop-part-init
loop-part-init g c =
    let first = c.args.volume.now in
    let made = c.chunks-part-items.ensures in
    let same = c.into_iter-part-iterator.ensures.into_iter_gives in
    let size_is : chunks_size c.into_iter-part-iterator.result ≡ 4096 = ap chunks_size same ∙ made.size in
    let from_is : c.if-at-eq0.from ≡ first_unwritten c.args.written.0 = elim c.if-at-eq0.branch [
      | then-at-eq0 w ↦ w.from-is ∙ sym (first_of_file c.args.written.0 w.if-at-eq0.true)
      | else-at-eq0 w ↦ w.from-is ∙ sym (first_later c.args.written.0 w.if-at-eq0.false)
    ] in
    record {
      next = omega (arith, size_is);
      finite = tt;
      size = size_is;
      types = refl;
      folder = refl;
      told = refl;
      written = no_stretches (g.S.Store.types_of first.session.store) first.folder c.args.begun.1 c.args.written.0 c.args.written.1.now
          (chunks_rest c.into_iter-part-iterator.result) (g.S.Store.state_of first.session.store) first.session.volume (ap chunks_rest same ∙ made.rest)
          c.if-at-eq0.from from_is;
    }

pub returns-in_err-write_run-clause-does : goal.returns-in_err-write_run-clause-does
returns-in_err-write_run-clause-does g c =
    let first = c.args.volume.now in
    let before = c.loop-part.volume in
    let so = c.loop-part.invariant in
    let block = c.args.begun.1 in
    let at = c.args.written.0 in
    let bytes = c.args.written.1.now in
    let from = c.loop-part.from in
    let to = c.loop-part.to in
    let rest = chunks_rest c.loop-part.part-iterator in
    let within : to ≤ length bytes = let counted = so.written.counted in omega arith in
    let part = c.in-Some.part.now in
    let behind = chunks_rest c.next.new.self in
    let step = c.in-Some.ensures.steps.1 in
    let part_len : length part ≡ min 4096 (length rest) = step.1 ∙ ap (λ (n : ℕ). min n (length rest)) so.size in
    let zeros = sym c.are_zeros.ensures ∙ c.if-are_zeros.true in
    let end = part_end to part in
    by_plan
    (some_stretches so.written so.types so.folder (stretches end end (parts behind)) (zeros_next from to part behind rest step.0 part_len step.2 zeros)
    (c.in_err-write_run.ensures.does within))
    (each_failed block (piece_stretches at bytes) c.from_residual.result c.from_residual.ensures.0)

pub loop-part-preserved-in_ok-write_run : goal.loop-part-preserved-in_ok-write_run
loop-part-preserved-in_ok-write_run g c =
    let first = c.args.volume.now in
    let before = c.loop-part.volume in
    let so = c.loop-part.invariant in
    let block = c.args.begun.1 in
    let at = c.args.written.0 in
    let bytes = c.args.written.1.now in
    let from = c.loop-part.from in
    let to = c.loop-part.to in
    let rest = chunks_rest c.loop-part.part-iterator in
    let within : to ≤ length bytes = let counted = so.written.counted in omega arith in
    let part = c.in-Some.part.now in
    let behind = chunks_rest c.next.new.self in
    let step = c.in-Some.ensures.steps.1 in
    let part_len : length part ≡ min 4096 (length rest) = step.1 ∙ ap (λ (n : ℕ). min n (length rest)) so.size in
    let zeros = sym c.are_zeros.ensures ∙ c.if-are_zeros.true in
    let after = c.write_run.new.volume in
    let run = c.write_run.ensures in
    let size_is : chunks_size c.next.new.self ≡ 4096 = c.in-Some.ensures.steps.0 ∙ so.size in
    record {
      next = omega (arith, size_is);
      finite = tt;
      size = size_is;
      types = run.types ∙ so.types;
      folder = run.folder ∙ so.folder;
      told = run.told ∙ so.told;
      written = subst (λ (n : ℕ). StretchesSoFar (g.S.Store.types_of first.session.store) first.folder block at bytes n n behind
          (g.S.Store.state_of first.session.store) (g.S.Store.state_of after.session.store) first.session.volume after.session.volume)
          (sym c.saturating_add-behind.ensures)
          (part_ends so.written part behind step.0 part_len step.2 zeros so.types so.folder (c.in_ok-write_run.ensures.does within));
    }

pub loop-part-preserved : goal.loop-part-preserved
loop-part-preserved g c =
    let first = c.args.volume.now in
    let before = c.loop-part.volume in
    let so = c.loop-part.invariant in
    let block = c.args.begun.1 in
    let at = c.args.written.0 in
    let bytes = c.args.written.1.now in
    let from = c.loop-part.from in
    let to = c.loop-part.to in
    let rest = chunks_rest c.loop-part.part-iterator in
    let within : to ≤ length bytes = let counted = so.written.counted in omega arith in
    let part = c.in-Some.part.now in
    let behind = chunks_rest c.next.new.self in
    let step = c.in-Some.ensures.steps.1 in
    let part_len : length part ≡ min 4096 (length rest) = step.1 ∙ ap (λ (n : ℕ). min n (length rest)) so.size in
    let full = sym c.are_zeros.ensures ∙ c.if-are_zeros.false in
    let size_is : chunks_size c.next.new.self ≡ 4096 = c.in-Some.ensures.steps.0 ∙ so.size in
    record {
      next = omega (arith, size_is);
      finite = tt;
      size = size_is;
      types = so.types;
      folder = so.folder;
      told = so.told;
      written = subst (λ (n : ℕ). StretchesSoFar (g.S.Store.types_of first.session.store) first.folder block at bytes from n behind
          (g.S.Store.state_of first.session.store) (g.S.Store.state_of before.session.store) first.session.volume before.session.volume)
          (sym c.saturating_add-behind.ensures) (part_stays so.written part behind step.0 part_len step.2 full);
    }

pub returns-in_err-write_run-2-clause-does : goal.returns-in_err-write_run-2-clause-does
returns-in_err-write_run-2-clause-does g c =
    let first = c.args.volume.now in
    let before = c.loop-part.volume in
    let so = c.loop-part.invariant in
    let block = c.args.begun.1 in
    let at = c.args.written.0 in
    let bytes = c.args.written.1.now in
    let from = c.loop-part.from in
    let to = c.loop-part.to in
    let rest = chunks_rest c.loop-part.part-iterator in
    let within : to ≤ length bytes = let counted = so.written.counted in omega arith in
    by_plan
    (some_stretches so.written so.types so.folder [] (none_next from to rest c.in-None.ensures.steps.1.0) (c.in_err-write_run-2.ensures.does within))
    (each_failed block (piece_stretches at bytes) c.from_residual-in_err-write_run-2.result c.from_residual-in_err-write_run-2.ensures.0)

pub returns-clause-does : goal.returns-clause-does
returns-clause-does g c =
    let first = c.args.volume.now in
    let before = c.loop-part.volume in
    let so = c.loop-part.invariant in
    let block = c.args.begun.1 in
    let at = c.args.written.0 in
    let bytes = c.args.written.1.now in
    let from = c.loop-part.from in
    let to = c.loop-part.to in
    let rest = chunks_rest c.loop-part.part-iterator in
    let within : to ≤ length bytes = let counted = so.written.counted in omega arith in
    all_stretches so.written so.types so.folder c.in-None.ensures.steps.1.0 (c.in_ok-write_run-2.ensures.does within)

pub returns-clause-left : goal.returns-clause-left
returns-clause-left g c = left_open c.loop-part.invariant.written c.in-None.ensures.steps.1.0
