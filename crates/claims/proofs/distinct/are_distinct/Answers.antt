use Rattle.std.proofs.Common.{◌%◌, ◌∙◌, true, get_or, sym, arith}
use Rattle.std.proofs.lemmas.List.{get_or_default, length-set}
use Rattle.claims.proofs.Numbers.{distinct_more, few_distinct, marked_more, not_marked, twice}
use Rattle.claims.proofs.distinct.are_distinct.Goals as goal
use Rattle.claims.proofs.distinct.are_distinct.Goals.{else-is_marked-mark-via-then-is_marked-mark+else-has_number, else-is_marked-mark-via-else-is_marked-mark}

pub returns-then-has_number : goal.returns-then-has_number
returns-then-has_number c =
    let xs = c.args.numbers.now in
    let place = c.loop-place.place in
    let x = get_or xs place 0 in
    sym (twice xs place x c.loop-place-test.true (get_or_default xs place 0 x c.loop-place-test.true) (sym c.has_number.ensures ∙ c.if-has_number.true))

pub loop-place-preserved : goal.loop-place-preserved
loop-place-preserved c =
    let xs = c.args.numbers.now in
    let place = c.loop-place.place in
    let x = get_or xs place 0 in
    let marks = c.loop-place.is_marked in
    let before = c.loop-place.invariant.1 in
    let long = c.loop-place.invariant.2 in
    let is = get_or_default xs place 0 x c.loop-place-test.true in
    let marked = marked_more marks xs place (omega (arith, long)) before in
    let still = length-set marks (x % 1024) true ∙ long in
    elim c.else-is_marked-mark.branch [
      | else-is_marked-mark-via-then-is_marked-mark+else-has_number w ↦
          (distinct_more xs place x c.loop-place-test.true is c.loop-place.invariant.0 (sym w.has_number.ensures ∙ w.if-has_number.false), marked, still)
      | else-is_marked-mark-via-else-is_marked-mark w ↦
          (distinct_more xs place x c.loop-place-test.true is c.loop-place.invariant.0 (not_marked marks xs place x (omega arith) w.if-is_marked-mark.false before), marked, still)
    ]

pub returns-then-numbers-lt2 : goal.returns-then-numbers-lt2
returns-then-numbers-lt2 c = few_distinct c.args.numbers.now c.if-numbers-lt2.true
