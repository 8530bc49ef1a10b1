-- What `parse` answers, against the one decimal spelling of a number.
use Rattle.std.proofs.Common.{◌≡◌, ℕ, zero, suc, ◌+◌, ◌*◌, ◌^◌, ◌<◌, ◌≤◌, List, [], ◌∷◌, length, take, get_or, subst, Result, Ok, Err, Some, None, inl, inr, arith, refl, sym, ap, ◌∙◌}
use Rattle.std.specs.Fmt.{decimal}
use Rattle.std.specs.Result.{result_ok}
use Rattle.std.proofs.lemmas.Option.{none-some, same_Some}
use Rattle.std.specs.Char.{digit_value}
use Rattle.std.specs.Int.{IsInRange}
use Rattle.std.specs.Str.Parse.{ParsesUnsigned, AllDigits, IsNumeral, digits_value}
use Rattle.std.proofs.lemmas.Bool.{cases_eq}
use Rattle.std.proofs.lemmas.Fmt.{decimal_digit, decimal_is_IsNumeral, first_decimal, parse-decimal, decimal-digits_value}
use Rattle.std.proofs.lemmas.Int.Digits.{digits_value_more}
use Rattle.std.proofs.lemmas.List.{take_all}
use Rattle.std.proofs.lemmas.Str.{digit_value_digit}
use Rattle.std.proofs.lemmas.Str.Parse.{numerals_by_value, tells_digits, without_leading_plus_none, digit_at, digits_value-take-le}
use Rattle.script.specs.Numbers.{IsPlain}

-- the decimal spelling of a number is plain
pub decimal_is_IsPlain : (n : ℕ) → n < 2 ^ 64 → IsPlain (decimal n)
decimal_is_IsPlain n h = elim (cases_eq n 0) [
  | inl none ↦
      let text : decimal n ≡ 48 ∷ [] = ap decimal none ∙ decimal_digit 0 (omega arith) in
      rw text (record { no_sign = λ e. absurd (omega arith); no_zero = λ e. refl })
  | inr more ↦
      let first = first_decimal n (omega arith) h in
      record { no_sign = λ e. absurd (omega arith); no_zero = λ e. absurd (omega arith) }
]

-- what `parse` answers for the decimal spelling
pub parses_decimal : {E : Type 0} (bs : List ℕ) (r : Result ℕ E) (n : ℕ) → ParsesUnsigned 64 10 bs r → n < 2 ^ 64
    → bs ≡ decimal n → (r ≡ Ok n) × IsPlain bs
parses_decimal bs r n parsed small spelled = (parse-decimal 64 n bs r small small spelled parsed, rw spelled (decimal_is_IsPlain n small))

-- the whole answer of `parse`, as what it gives in an `Ok`
pub parsed_none : {E : Type 0} (bs : List ℕ) (r : Result ℕ E) (n : ℕ) → ParsesUnsigned 64 10 bs r → result_ok r ≡ None → n < 2 ^ 64
    → bs ≡ decimal n → ⊥
parsed_none bs r n parsed none small spelled = none-some n (sym none ∙ ap result_ok (parses_decimal bs r n parsed small spelled).0)

pub parsed_some : {E : Type 0} (bs : List ℕ) (r : Result ℕ E) (m n : ℕ) → ParsesUnsigned 64 10 bs r → result_ok r ≡ Some m → n < 2 ^ 64
    → bs ≡ decimal n → (m ≡ n) × IsPlain bs
parsed_some bs r m n parsed some small spelled =
    let p = parses_decimal bs r n parsed small spelled in
    (same_Some m n (sym some ∙ ap result_ok p.0), p.1)

-- a plain text that `parse` reads is the decimal spelling of what it answers
pub parsed_spelled : {E : Type 0} (bs : List ℕ) (r : Result ℕ E) (m : ℕ) → ParsesUnsigned 64 10 bs r → result_ok r ≡ Some m → IsPlain bs
    → bs ≡ decimal m
parsed_spelled bs (Ok n) m parsed some plain =
    let same = without_leading_plus_none bs plain.no_sign in
    let numeral : IsNumeral 10 bs = rw (sym same) parsed.0.0 in
    let small : digits_value 10 bs < 2 ^ 64 = rw (sym same) parsed.0.1 in
    let value : m ≡ digits_value 10 bs = sym (same_Some n m some) ∙ (parsed.1 ∙ ap (digits_value 10) same) in
    sym (ap decimal value ∙ decimal-digits_value (numerals_by_value (AllDigits 10) tells_digits) bs numeral.1 numeral.0 plain.no_zero small)
parsed_spelled bs (Err e) m parsed some plain = absurd (none-some m some)

-- the digits before this place, read one after another, are those of this number
pub record IsValueTo (text : List ℕ) (place number : ℕ) : Type 0 where
  pub digits : AllDigits 10 (take place text)
  pub value : number ≡ digits_value 10 (take place text)

digits_more : (text : List ℕ) (place : ℕ) → place < length text → AllDigits 10 (take place text) → digit_value (get_or text place 0) < 10 →
    AllDigits 10 (take (suc place) text)
digits_more [] place within digits digit = absurd (omega arith)
digits_more (c ∷ cs) zero within digits digit = (digit, tt)
digits_more (c ∷ cs) (suc place) within digits digit = (digits.0, digits_more cs place (omega arith) digits.1 digit)

-- one more digit
pub value_more : (text : List ℕ) (place number digit byte : ℕ) → place < length text → byte ≡ get_or text place 0 → digit + 48 ≡ byte → digit < 10 →
    IsValueTo text place number → IsValueTo text (place + 1) (10 * number + digit)
value_more text place number digit byte within there spelled small so_far =
    let value : digit_value (get_or text place 0) + 48 ≡ get_or text place 0 = digit_value_digit (get_or text place 0) (omega arith, omega arith) in
    let next : place + 1 ≡ suc place = omega arith in
    record {
      digits = subst (λ k. AllDigits 10 (take k text)) (sym next) (digits_more text place within so_far.digits (omega arith));
      value = let more = digits_value_more 10 text place within in omega (arith, more, value, so_far.value);
    }

-- a number that is too great already
pub too_great : (text : List ℕ) (place number n : ℕ) → IsValueTo text place number → n < number → n < 2 ^ 64 → text ≡ decimal n → ⊥
too_great text place number n so_far great small spelled =
    let whole = ap (digits_value 10) spelled ∙ (decimal_is_IsNumeral n small).1 in
    omega (arith, whole, so_far.value, digits_value-take-le 10 text place (omega arith))

-- each byte is a digit
pub each_digit : (text : List ℕ) (place n : ℕ) → place < length text → n < 2 ^ 64 → text ≡ decimal n → IsInRange 48 57 (get_or text place 0)
each_digit text place n within small spelled = digit_at text place (subst (AllDigits 10) (sym spelled) (decimal_is_IsNumeral n small).0.1) within

-- after the last digit
pub value_spelled : (text : List ℕ) (place number : ℕ) → length text ≤ place → 0 < length text → IsPlain text → number < 2 ^ 64 → IsValueTo text place number →
    text ≡ decimal number
value_spelled text place number past some plain small so_far =
    let whole = take_all place text past in
    let digits = subst (AllDigits 10) whole so_far.digits in
    let value = so_far.value ∙ ap (digits_value 10) whole in
    sym (ap decimal value ∙ decimal-digits_value (numerals_by_value (AllDigits 10) tells_digits) text digits some plain.no_zero (omega (arith, value)))
