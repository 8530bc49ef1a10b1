use Rattle.std.proofs.Common.{◌+◌, ◌*◌, length, get_or, Some, arith, refl, ap, sym, subst, ◌∙◌}
use Rattle.std.specs.Int.{IsInRange}
use Rattle.std.proofs.lemmas.Bool.{eqb-true, eqb-false, false≢true}
use Rattle.std.proofs.lemmas.Fmt.{decimal_nonempty, decimal_injective}
use Rattle.script.specs.Numbers.{IsPlain}
use Rattle.script.proofs.Decimals.{IsValueTo, decimal_is_IsPlain, each_digit, too_great, value_more, value_spelled}
use Rattle.script.proofs.number.parse_u32.Goals as goal
use Rattle.script.proofs.number.parse_u32.Goals.{then-is_empty-via-then-is_empty, then-is_empty-via-else-is_empty+then-not-is_plain}

pub returns-then-is_empty-clause-readable : goal.returns-then-is_empty-clause-readable
returns-then-is_empty-clause-readable c = λ n few spelled.
    let plain : IsPlain c.args.text.now = rw spelled (decimal_is_IsPlain n (omega arith)) in
    elim c.then-is_empty.branch [
      | then-is_empty-via-then-is_empty w ↦ absurd (omega (arith, eqb-true (length c.args.text.now) 0 (sym c.is_empty.ensures ∙ w.if-is_empty.true), decimal_nonempty n (omega arith), ap length spelled))
      | then-is_empty-via-else-is_empty+then-not-is_plain w ↦ absurd (false≢true (w.if-not-is_plain.ensures.1 plain))
    ]

pub returns-in_err-digit_value-clause-readable : goal.returns-in_err-digit_value-clause-readable
returns-in_err-digit_value-clause-readable c = λ n few spelled.
    let same = c.as_bytes-digit-items.ensures.value in
    let digit = each_digit c.args.text.now c.loop-digit.digit-index n (omega (arith, c.loop-digit-test.true, ap length same)) (omega arith) spelled in
    absurd (false≢true (c.in_err-digit_value.ensures.digit.1 (subst (λ bytes. IsInRange 48 57 (get_or bytes c.loop-digit.digit-index 0)) (sym same) digit)))

pub returns-then-number-from-clause-readable : goal.returns-then-number-from-clause-readable
returns-then-number-from-clause-readable c = λ n few spelled.
    let same = c.as_bytes-digit-items.ensures.value in
    let value = ap (λ digit. digit + 48) c.from.ensures ∙ c.in_ok-digit_value.ensures.value in
    let more : IsValueTo c.args.text.now (c.loop-digit.digit-index + 1) (10 * c.loop-digit.number + c.from.result) =
    value_more c.args.text.now c.loop-digit.digit-index c.loop-digit.number c.from.result _ (omega (arith, c.loop-digit-test.true, ap length same))
    (ap (λ bytes. get_or bytes c.loop-digit.digit-index 0) same) value (omega (arith, value, (c.in_ok-digit_value.ensures.digit.0 refl).1)) c.loop-digit.invariant.read in
    absurd (too_great c.args.text.now (c.loop-digit.digit-index + 1) (10 * c.loop-digit.number + c.from.result) n more
    (omega (arith, few, c.if-number-from.true, c.from-in-loop-digit.ensures)) (omega arith) spelled)

pub loop-digit-preserved : goal.loop-digit-preserved
loop-digit-preserved c =
    let same = c.as_bytes-digit-items.ensures.value in
    let value = ap (λ digit. digit + 48) c.from.ensures ∙ c.in_ok-digit_value.ensures.value in
    record {
      read = value_more c.args.text.now c.loop-digit.digit-index c.loop-digit.number c.from.result _ (omega (arith, c.loop-digit-test.true, ap length same))
          (ap (λ bytes. get_or bytes c.loop-digit.digit-index 0) same) value (omega (arith, value, (c.in_ok-digit_value.ensures.digit.0 refl).1)) c.loop-digit.invariant.read;
      small = omega (arith, c.if-number-from.false, c.from-in-loop-digit.ensures);
    }

pub returns-clause-spelled : goal.returns-clause-spelled
returns-clause-spelled c =
    let same = c.as_bytes-digit-items.ensures.value in
    let some = eqb-false (length c.args.text.now) 0 (sym c.is_empty.ensures ∙ c.if-is_empty.false) in
    value_spelled c.args.text.now c.loop-digit.digit-index c.loop-digit.number (omega (arith, c.loop-digit-test.false, ap length same)) (omega (arith, some))
    (c.if-not-is_plain.ensures.0 refl) (omega arith) c.loop-digit.invariant.read

pub returns-clause-readable : goal.returns-clause-readable
returns-clause-readable c = λ n few spelled.
    let same = c.as_bytes-digit-items.ensures.value in
    let some = eqb-false (length c.args.text.now) 0 (sym c.is_empty.ensures ∙ c.if-is_empty.false) in
    let value = value_spelled c.args.text.now c.loop-digit.digit-index c.loop-digit.number (omega (arith, c.loop-digit-test.false, ap length same)) (omega (arith, some))
    (c.if-not-is_plain.ensures.0 refl) (omega arith) c.loop-digit.invariant.read in
    ap Some (decimal_injective c.loop-digit.number n (omega arith) (omega arith) (sym value ∙ spelled))
