use Rattle.std.proofs.Common.{◌+◌, ◌-◌, true, get_or, arith, sym, ap, ◌∙◌}
use Rattle.std.specs.Prelude.{Some, slice_set}
use Rattle.udf_code.specs.Tree.{Less, Equal}
use Rattle.udf_verify.specs.Checks.{CheckAnswer, Checks}
use Rattle.udf_verify.specs.Intervals.{between}
use Rattle.udf_verify.proofs.Laid.{word_at}
use Rattle.udf_verify.proofs.Checking.{at_end, has_word, is_short, at_plain, at_if, target_readable, part_readable, part_after, part_before, first_checks, with_else, without_else, at_same}
use Rattle.std.specs.List.{list_any}
use Rattle.udf_code.specs.Words.{word_writes}
use Rattle.std.proofs.lemmas.Result.{err_from_is_err_and}
use Rattle.udf_verify.proofs.CheckingLoops.{FirstTurn, at_for, in_loop_is, parted, checks_same}
use Rattle.udf_verify.proofs.check.+check.Goals as goal
use Rattle.udf_verify.proofs.check.+check.Goals.{check_turns-After-new}

pub check_block-returns : goal.check_block-returns
check_block-returns t c = λ answer r. at_end _ _ _ _ _ _ _ _ c.loop-at-test.false (c.loop-at.invariant.1 answer r)

pub check_part-offset_bounds-words-at : goal.check_part-offset_bounds-words-at
check_part-offset_bounds-words-at t c =
    let h = has_word _ _ _ _ _ _ _ _ c.requires.more c.requires.checks.1 in
    let s = is_short _ _ _ _ _ _ _ _ c.requires.more c.requires.checks.1 in
    omega arith

pub check_part-bounds-words-at : goal.check_part-bounds-words-at
check_part-bounds-words-at t c = has_word _ _ _ _ _ _ _ _ c.requires.more c.requires.checks.1

pub check_part-check_word-requires : goal.check_part-check_word-requires
check_part-check_word-requires t c =
    (at_plain _ _ _ _ _ _ _ _ c.requires.more _ _ c.index-words-at.is c.in_default.not-IfLess c.in_default.not-IfEqual c.in_default.not-For c.requires.checks.1).plain

pub check_part-check_turns-requires : goal.check_part-check_turns-requires
check_part-check_turns-requires t c =
    let g = word_at _ _ _ _ (has_word _ _ _ _ _ _ _ _ c.requires.more c.requires.checks.1) c.index-words-at.is ∙ ap Some c.in-For.is in
    (omega arith, (g, (c.requires.more, c.requires.checks)))

pub check_part-check_branches-requires : goal.check_part-check_branches-requires
check_part-check_branches-requires t c =
    let s = at_if _ _ _ _ _ _ _ _ c.requires.more Less _ _ _ _ c.index-words-at.is c.in-IfLess.is c.requires.checks.1 in
    (omega arith, (c.requires.checks.0, s.ok _ _ c.in-Ok.ensures))

pub check_part-check_branches-requires-in-Ok-split_equal : goal.check_part-check_branches-requires-in-Ok-split_equal
check_part-check_branches-requires-in-Ok-split_equal t c =
    let s = at_if _ _ _ _ _ _ _ _ c.requires.more Equal _ _ _ _ c.index-words-at.is c.in-IfEqual.is c.requires.checks.1 in
    (omega arith, (c.requires.checks.0, s.ok _ _ c.in-Ok-split_equal.ensures))

pub check_branches-bounds-targets-at : goal.check_branches-bounds-targets-at
check_branches-bounds-targets-at t c = target_readable _ _ _ _ _ _ _ _ _ c.requires.1

pub check_branches-overflow_add-at : goal.check_branches-overflow_add-at
check_branches-overflow_add-at t c = let a = part_after _ _ _ _ _ _ _ _ _ c.requires.1 in let b = part_before _ _ _ _ _ _ _ _ _ c.requires.1 in omega arith

pub check_branches-check_block-requires : goal.check_branches-check_block-requires
check_branches-check_block-requires t c =
    let a = part_after _ _ _ _ _ _ _ _ _ c.requires.1 in
    let b = part_before _ _ _ _ _ _ _ _ _ c.requires.1 in
    let f = first_checks _ _ _ _ _ _ _ _ _ c.requires.1 in
    (omega arith, (f.0, f.1))

pub check_branches-bounds-words-part : goal.check_branches-bounds-words-part
check_branches-bounds-words-part t c = part_readable _ _ _ _ _ _ _ _ _ c.requires.1

pub check_branches-bounds-targets-part : goal.check_branches-bounds-targets-part
check_branches-bounds-targets-part t c = (with_else _ _ _ _ _ _ _ _ _ c.requires.1 _ _ c.index-words-part.is c.in-Else.is).part_readable

pub check_branches-check_block-requires-in-Else : goal.check_branches-check_block-requires-in-Else
check_branches-check_block-requires-in-Else t c =
    let p = with_else _ _ _ _ _ _ _ _ _ c.requires.1 _ _ c.index-words-part.is c.in-Else.is in
    (omega (arith, p.after, p.part_after, p.before), (p.other_answer, p.other))

pub check_block-returns-in_err-at : goal.check_block-returns-in_err-at
check_block-returns-in_err-at t c = let p = err_from_is_err_and c.from_residual.result c.from_residual.ensures.1 in rw (p.1, p.2) λ answer r. c.in_err-at.ensures.same answer (c.loop-at.invariant.1 answer r)

pub check_branches-returns-in_err-check_block-clause-same : goal.check_branches-returns-in_err-check_block-clause-same
check_branches-returns-in_err-check_block-clause-same t c = let e = err_from_is_err_and c.from_residual.result c.from_residual.ensures.1 in rw (e.1, e.2) λ answer r.
    let f = first_checks _ _ _ _ _ _ _ _ answer r in
    f.2 _ (c.in_err-check_block.ensures f.0 f.1)

pub check_branches-returns-in_err-check_block-in-Else-clause-same : goal.check_branches-returns-in_err-check_block-in-Else-clause-same
check_branches-returns-in_err-check_block-in-Else-clause-same t c = let e = err_from_is_err_and c.from_residual-in_err-check_block-in-Else.result c.from_residual-in_err-check_block-in-Else.ensures.1 in rw (e.1, e.2) λ answer r.
    let p = with_else _ _ _ _ _ _ _ _ answer r _ _ c.index-words-part.is c.in-Else.is in
    p.other_err _ (c.in_ok-check_block.ensures p.first_answer p.first) _ (c.in_err-check_block-in-Else.ensures p.other_answer p.other)

pub check_branches-returns-in_ok-check_block-in-Else-clause-onward : goal.check_branches-returns-in_ok-check_block-in-Else-clause-onward
check_branches-returns-in_ok-check_block-in-Else-clause-onward t c =
    let p = with_else _ _ _ _ _ _ _ _ _ c.requires.1 _ _ c.index-words-part.is c.in-Else.is in
    omega (arith, p.after, p.part_after)

pub check_branches-returns-in_ok-check_block-in-Else-clause-same : goal.check_branches-returns-in_ok-check_block-in-Else-clause-same
check_branches-returns-in_ok-check_block-in-Else-clause-same t c = λ answer r.
    let p = with_else _ _ _ _ _ _ _ _ answer r _ _ c.index-words-part.is c.in-Else.is in
    at_same _ _ _ _ _ _ _ _ _ c.merge_into.ensures (p.ok _ _ (c.in_ok-check_block.ensures p.first_answer p.first) (c.in_ok-check_block-in-Else.ensures p.other_answer p.other))

pub check_branches-returns-in_default : goal.check_branches-returns-in_default
check_branches-returns-in_default t c = record {
  onward = let a = part_after _ _ _ _ _ _ _ _ _ c.requires.1 in omega arith;
  same = λ answer r.
      let p = without_else _ _ _ _ _ _ _ _ answer r _ _ c.index-words-part.is c.in_default.not-Else in
      at_same _ _ _ _ _ _ _ _ _ c.merge_into-in_default.ensures (p.ok _ (c.in_ok-check_block.ensures p.first_answer p.first));
}

pub check_part-returns-in-Ok-clause-same : goal.check_part-returns-in-Ok-clause-same
check_part-returns-in-Ok-clause-same t c = λ answer r.
    let s = at_if _ _ _ _ _ _ _ answer c.requires.more Less _ _ _ _ c.index-words-at.is c.in-IfLess.is r in
    c.check_branches.ensures.same answer (s.ok _ _ c.in-Ok.ensures)

pub check_part-returns-in-Err-clause-same : goal.check_part-returns-in-Err-clause-same
check_part-returns-in-Err-clause-same t c = λ answer r.
    let s = at_if _ _ _ _ _ _ _ answer c.requires.more Less _ _ _ _ c.index-words-at.is c.in-IfLess.is r in
    s.err _ c.in-Err.ensures

pub check_part-returns-in-Ok-split_equal-clause-same : goal.check_part-returns-in-Ok-split_equal-clause-same
check_part-returns-in-Ok-split_equal-clause-same t c = λ answer r.
    let s = at_if _ _ _ _ _ _ _ answer c.requires.more Equal _ _ _ _ c.index-words-at.is c.in-IfEqual.is r in
    c.check_branches-in-Ok-split_equal.ensures.same answer (s.ok _ _ c.in-Ok-split_equal.ensures)

pub check_part-returns-in-Err-split_equal-clause-same : goal.check_part-returns-in-Err-split_equal-clause-same
check_part-returns-in-Err-split_equal-clause-same t c = λ answer r.
    let s = at_if _ _ _ _ _ _ _ answer c.requires.more Equal _ _ _ _ c.index-words-at.is c.in-IfEqual.is r in
    s.err _ c.in-Err-split_equal.ensures

pub check_part-returns-in_ok-check_word-in_default : goal.check_part-returns-in_ok-check_word-in_default
check_part-returns-in_ok-check_word-in_default t c = record {
  onward = omega arith;
  same = λ answer r.
      let p = at_plain _ _ _ _ _ _ _ answer c.requires.more _ _ c.index-words-at.is c.in_default.not-IfLess c.in_default.not-IfEqual c.in_default.not-For r in
      p.ok _ c.in_ok-check_word-in_default.ensures;
}

pub check_part-returns-in_err-check_word-in_default : goal.check_part-returns-in_err-check_word-in_default
check_part-returns-in_err-check_word-in_default t c = let e = err_from_is_err_and c.from_residual.result c.from_residual.ensures.1 in rw (e.1, e.2) record {
  onward = tt;
  same = λ answer r.
      let p = at_plain _ _ _ _ _ _ _ answer c.requires.more _ _ c.index-words-at.is c.in_default.not-IfLess c.in_default.not-IfEqual c.in_default.not-For r in
      p.err _ c.in_err-check_word-in_default.ensures;
}

pub check_turns-returns-then-counters-counter-clause-same : goal.check_turns-returns-then-counters-counter-clause-same
check_turns-returns-then-counters-counter-clause-same t c = λ answer r.
    let l = at_for _ _ _ _ _ _ _ answer c.requires.more _ _ c.requires.stands r in
    l.busy (rw c.index-counter.ensures.value at c.if-counters-counter.true)

pub check_turns-bounds-targets-at : goal.check_turns-bounds-targets-at
check_turns-bounds-targets-at t c = (at_for _ _ _ _ _ _ _ _ c.requires.more _ _ c.requires.stands c.requires.checks.1).readable

pub check_turns-offset_bounds-words-at : goal.check_turns-offset_bounds-words-at
check_turns-offset_bounds-words-at t c =
    let l = at_for _ _ _ _ _ _ _ _ c.requires.more _ _ c.requires.stands c.requires.checks.1 in
    omega (arith, l.after, l.before, l.within, l.short)

pub check_turns-slice_bounds-inside-count : goal.check_turns-slice_bounds-inside-count
check_turns-slice_bounds-inside-count t c =
    let l = at_for _ _ _ _ _ _ _ _ c.requires.more _ _ c.requires.stands c.requires.checks.1 in
    omega (arith, l.after, l.before, l.within, l.short)

pub check_turns-slice_bounds-inside-start : goal.check_turns-slice_bounds-inside-start
check_turns-slice_bounds-inside-start t c =
    let l = at_for _ _ _ _ _ _ _ _ c.requires.more _ _ c.requires.stands c.requires.checks.1 in
    omega (arith, l.after, l.before, l.within, l.short)

pub check_turns-slice_bounds-inside-end : goal.check_turns-slice_bounds-inside-end
check_turns-slice_bounds-inside-end t c =
    let l = at_for _ _ _ _ _ _ _ _ c.requires.more _ _ c.requires.stands c.requires.checks.1 in
    omega (arith, l.after, l.before, l.within, l.short)

pub check_turns-check_claims-requires : goal.check_turns-check_claims-requires
check_turns-check_claims-requires t c =
    let l = at_for _ _ _ _ _ _ _ _ c.requires.more _ _ c.requires.stands c.requires.checks.1 in
    let p = parted _ _ _ _ l.claims l.body l.inside (c.count_claims.ensures.exact l.claims l.body l.plain l.inside) c.split_at.ensures.front c.split_at.ensures.back in
    omega (arith, l.closes, l.before, l.within, l.short, p.count)

pub check_turns-returns-in_err-check_claims-clause-same : goal.check_turns-returns-in_err-check_claims-clause-same
check_turns-returns-in_err-check_claims-clause-same t c = let e = err_from_is_err_and c.from_residual.result c.from_residual.ensures.1 in rw (e.1, e.2) λ answer r.
    let l = at_for _ _ _ _ _ _ _ answer c.requires.more _ _ c.requires.stands r in
    let p = parted _ _ _ _ l.claims l.body l.inside (c.count_claims.ensures.exact l.claims l.body l.plain l.inside) c.split_at.ensures.front c.split_at.ensures.back in
    let free = rw c.index-counter.ensures.value at c.if-counters-counter.false in
    l.claim_err free _ (c.in_err-check_claims.ensures l.claims p.claims)

-- before the first turn
first_turn : (t : _) (c : check_turns-After-new t) (answer : CheckAnswer) →
    Checks c.args.words.now c.args.targets.now c.args.part.start c.args.part.end c.args.role c.args.counters.now c.args.intervals.now answer →
    FirstTurn c.args.words.now c.args.targets.now c.args.part.start c.args.part.end c.args.role c.args.counters.now c.args.intervals.now answer c.args.a c.args.n
    (get_or c.args.targets.now c.args.part.start 0) c.split_at.result.0.now (slice_set c.args.counters.now c.index-counter.result true) c.claim.new.intervals
    (slice_set c.claim.new.intervals c.index-counter.result c.new.result)
first_turn t c answer r =
    let l = at_for _ _ _ _ _ _ _ answer c.requires.more _ _ c.requires.stands r in
    let p = parted _ _ _ _ l.claims l.body l.inside (c.count_claims.ensures.exact l.claims l.body l.plain l.inside) c.split_at.ensures.front c.split_at.ensures.back in
    let counter = c.index-counter.ensures.value in
    let looped = in_loop_is c.written_by.result l.claims l.body c.args.intervals.now c.forget.new.intervals c.claim.new.intervals c.args.a c.told-intervals
    (λ r h. c.written_by.ensures r h ∙ ap (list_any (word_writes r)) p.body) c.forget.ensures (c.claim.ensures l.claims p.claims) in
    let turn = (λ i. slice_set c.claim.new.intervals (counter i) c.new.result) ∙ looped _ _ (c.new.ensures ∙ ap (λ x. between 0 (x - 1)) c.count.ensures.value) in
    record {
      loop = l;
      claims = p.claims;
      count = p.count;
      free = rw counter at c.if-counters-counter.false;
      held = c.in_ok-check_claims.ensures l.claims p.claims;
      looped = looped;
      inner = checks_same _ _ _ _ _ _ _ _ _ _ l.turned (ap (λ k. c.args.part.start + 1 + k) p.count) (ap (λ r. slice_set c.args.counters.now r true) counter) turn l.inner;
    }

pub check_turns-check_block-requires : goal.check_turns-check_block-requires
check_turns-check_block-requires t c =
    let f = first_turn t (goal.at.check_turns-check_block-requires t c).After-new _ c.requires.checks.1 in
    (omega (arith, f.loop.closes, f.loop.before, f.loop.within, f.loop.short, f.count), (f.loop.turned, f.inner))

pub check_turns-returns-in_err-check_block-clause-same : goal.check_turns-returns-in_err-check_block-clause-same
check_turns-returns-in_err-check_block-clause-same t c = let e = err_from_is_err_and c.from_residual-in_err-check_block.result c.from_residual-in_err-check_block.ensures.1 in rw (e.1, e.2) λ answer r.
    let f = first_turn t (goal.at.check_turns-returns-in_err-check_block-clause-same t c).After-new answer r in
    f.loop.err f.free f.held _ (c.in_err-check_block.ensures f.loop.turned f.inner)

pub check_turns-returns-then-not-claims_hold-clause-same : goal.check_turns-returns-then-not-claims_hold-clause-same
check_turns-returns-then-not-claims_hold-clause-same t c = λ answer r.
    let f = first_turn t (goal.at.check_turns-returns-then-not-claims_hold-clause-same t c).After-new answer r in
    f.loop.unkept f.free f.held _ (c.in_ok-check_block.ensures f.loop.turned f.inner) (sym (c.if-not-claims_hold.ensures f.loop.claims f.claims))

pub check_turns-returns-clause-onward : goal.check_turns-returns-clause-onward
check_turns-returns-clause-onward t c =
    let l = at_for _ _ _ _ _ _ _ _ c.requires.more _ _ c.requires.stands c.requires.checks.1 in
    omega (arith, l.after)

pub check_turns-returns-clause-same : goal.check_turns-returns-clause-same
check_turns-returns-clause-same t c = λ answer r.
    let f = first_turn t (goal.at.check_turns-returns-clause-same t c).After-new answer r in
    let last = f.looped _ _ (c.new-2.ensures ∙ ap (λ x. between (x - 1) (x - 1)) c.count.ensures.value) in
    at_same _ _ _ _ _ _ _ _ _ (ap (λ r. slice_set c.claim.new.intervals r c.new-2.result) c.index-counter.ensures.value ∙ last)
    (f.loop.ok f.free f.held _ (c.in_ok-check_block.ensures f.loop.turned f.inner) (sym (c.if-not-claims_hold.ensures f.loop.claims f.claims)))
