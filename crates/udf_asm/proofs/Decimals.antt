-- What is written as a decimal is read as the same number, and what is read as a number is its decimal.
use Rattle.std.proofs.Common.{◌≡◌, ℕ, ◌+◌, ◌-◌, ◌*◌, ◌/◌, ◌%◌, ◌^◌, ◌<◌, ◌≤◌, ◌&&◌, Bool, true, false, cond, List, [], ◌∷◌, ◌++◌, refl, sym, ap, ◌∙◌, subst, arith, append_assoc, append-nil}
use Rattle.std.specs.Prelude.{Option, Some, None, ◌==◌, nat_lt}
use Rattle.std.specs.Fmt.{decimal}
use Rattle.std.specs.List.{list_all}
use Rattle.std.proofs.lemmas.Bool.{ltb-true, lt-ltb, leb-true, le-leb, eqb-true, eqb-false}
use Rattle.std.proofs.lemmas.Fmt.{decimal_by_steps, decimal_digit, decimal_step}
use Rattle.std.proofs.lemmas.List.Folds.{list_all-append}
use Rattle.udf_asm.specs.Numbers.{is_digit, with_digit, digits_from, number_of, ◌>>=◌}

-- one more digit behind
one_more : (number : ℕ) (digits : List ℕ) (digit : ℕ) → digits_from number (digits ++ digit ∷ []) ≡ (digits_from number digits >>= (λ m. digits_from m (digit ∷ [])))
one_more number [] digit = refl
one_more number (c ∷ digits) digit = by_test (is_digit c && nat_lt (with_digit number c) (2 ^ 16)) (one_more (with_digit number c) digits digit)
  where
    by_test : (t : Bool) → digits_from (with_digit number c) (digits ++ digit ∷ []) ≡ (digits_from (with_digit number c) digits >>= (λ m. digits_from m (digit ∷ []))) → cond t (digits_from (with_digit number c) (digits ++ digit ∷ [])) None ≡ (cond t (digits_from (with_digit number c) digits) None >>= (λ m. digits_from m (digit ∷ [])))
    by_test true ih = ih
    by_test false ih = refl

both_true : (s t : Bool) → s ≡ true → t ≡ true → (s && t) ≡ true
both_true true t h g = g
both_true false t h g = absurd (cc)

and_true : (s t : Bool) → (s && t) ≡ true → (s ≡ true) × (t ≡ true)
and_true true t h = (refl, h)
and_true false t h = absurd (cc)

-- a digit, and the number that it makes
last_digit : (m r : ℕ) → r < 10 → 10 * m + r < 2 ^ 16 → digits_from m ((48 + r) ∷ []) ≡ Some (10 * m + r)
last_digit m r h g =
    let same : with_digit m (48 + r) ≡ 10 * m + r = omega arith in
    let t = both_true _ _ (both_true _ _ (le-leb 48 (48 + r) (omega arith)) (le-leb (48 + r) 57 (omega arith))) (lt-ltb (with_digit m (48 + r)) (2 ^ 16) (omega arith)) in
    ap (λ b. cond b (Some (with_digit m (48 + r))) None) t ∙ ap Some same

-- a number above 0 begins with no `0`
record Begins (digits : List ℕ) (m : ℕ) : Type 0 where
  value : digits_from 0 digits ≡ Some m
  more : (digit : ℕ) → number_of (digits ++ digit ∷ []) ≡ digits_from 0 (digits ++ digit ∷ [])

begins_one : (c digit m : ℕ) → digits_from 0 (c ∷ []) ≡ Some m → 0 < m → (t : Bool) → (c == 48) ≡ t → cond t None (digits_from 0 (c ∷ digit ∷ [])) ≡ digits_from 0 (c ∷ digit ∷ [])
begins_one c digit m h g true e = absurd (zero_only (ap (λ x. digits_from 0 (x ∷ [])) (sym (eqb-true c 48 e)) ∙ h))
  where
    zero_only : ◌≡◌ {A = Option ℕ} (Some 0) (Some m) → ⊥
    zero_only k = let z : 0 ≡ m = cc in absurd (omega arith)
begins_one c digit m h g false e = refl

begins_more : (c d m : ℕ) (digits : List ℕ) (t : Bool) → (c == 48) ≡ t → cond t None (digits_from 0 (c ∷ d ∷ digits)) ≡ Some m → Begins (c ∷ d ∷ digits) m
begins_more c d m digits true e h = absurd (cc)
begins_more c d m digits false e h = record { value = h; more = λ digit. ap (λ t. cond t None (digits_from 0 (c ∷ d ∷ (digits ++ digit ∷ [])))) e }

begins : (digits : List ℕ) (m : ℕ) → number_of digits ≡ Some m → 0 < m → Begins digits m
begins [] m h g = absurd (cc)
begins (c ∷ []) m h g = record { value = h; more = λ digit. begins_one c digit m h g (c == 48) refl }
begins (c ∷ d ∷ digits) m h g = begins_more c d m digits (c == 48) refl h

step : (n : ℕ) (digits : List ℕ) → 10 ≤ n → (n / 10 < 2 ^ 16 → number_of digits ≡ Some (n / 10)) → n < 2 ^ 16 → number_of (digits ++ (48 + n % 10) ∷ []) ≡ Some n
step n digits h ih g =
    let b = begins digits (n / 10) (ih (omega arith)) (omega arith) in
    let whole : 10 * (n / 10) + n % 10 ≡ n = omega arith in
    b.more (48 + n % 10) ∙ one_more 0 digits (48 + n % 10)
    ∙ ap (λ o. o >>= (λ m. digits_from m ((48 + n % 10) ∷ []))) b.value
    ∙ last_digit (n / 10) (n % 10) (omega arith) (omega arith) ∙ ap Some whole

pub number_of-decimal : (n : ℕ) → n < 2 ^ 16 → number_of (decimal n) ≡ Some n
number_of-decimal n h =
    decimal_by_steps (λ m digits. m < 2 ^ 16 → number_of digits ≡ Some m) (λ m g k. let same : 10 * 0 + m ≡ m = omega arith in last_digit 0 m g (omega arith) ∙ ap Some same) step n (omega arith) h

-- the bytes of a decimal are above a space
pub decimal_high : (n : ℕ) → n < 2 ^ 16 → list_all (λ c. nat_lt 32 c) (decimal n) ≡ true
decimal_high n h =
    decimal_by_steps (λ m digits. list_all (λ c. nat_lt 32 c) digits ≡ true)
    (λ m g. both_true _ _ (lt-ltb 32 (48 + m) (omega arith)) refl)
    (λ m digits g ih. list_all-append (λ c. nat_lt 32 c) digits _ ∙ both_true _ _ ih (both_true _ _ (lt-ltb 32 (48 + m % 10) (omega arith)) refl)) n (omega arith)

-- the digits that were read behind a number
record Read (number : ℕ) (digits : List ℕ) (n : ℕ) : Type 0 where
  small : n < 2 ^ 16
  text : 0 < number → decimal n ≡ decimal number ++ digits

digit_test : (number c : ℕ) → (is_digit c && nat_lt (with_digit number c) (2 ^ 16)) ≡ true → (48 ≤ c) × (c ≤ 57) × (with_digit number c < 2 ^ 16)
digit_test number c h =
    let s = and_true _ _ h in let d = and_true _ _ s.0 in
    (leb-true 48 c d.0, leb-true c 57 d.1, ltb-true _ (2 ^ 16) s.1)

with_last : (number c : ℕ) → 0 < number → 48 ≤ c → c ≤ 57 → with_digit number c < 2 ^ 16 → decimal (with_digit number c) ≡ decimal number ++ c ∷ []
with_last number c h g i k =
    let front : with_digit number c / 10 ≡ number = omega arith in
    let last : 48 + with_digit number c % 10 ≡ c = omega arith in
    decimal_step (with_digit number c) (omega arith) (omega arith) ∙ ap (λ m. decimal m ++ (48 + with_digit number c % 10) ∷ []) front ∙ ap (λ d. decimal number ++ d ∷ []) last

read : (digits : List ℕ) (number n : ℕ) → number < 2 ^ 16 → digits_from number digits ≡ Some n → Read number digits n
read [] number n h e = let same : number ≡ n = cc in record { small = subst (λ m. m < 2 ^ 16) same h; text = λ g. ap decimal (sym same) ∙ sym (append-nil (decimal number)) }
read (c ∷ digits) number n h e = by_test (λ k g. read digits (with_digit number c) n k g) (is_digit c && nat_lt (with_digit number c) (2 ^ 16)) refl e
  where
    by_test : (with_digit number c < 2 ^ 16 → digits_from (with_digit number c) digits ≡ Some n → Read (with_digit number c) digits n) → (t : Bool) → (is_digit c && nat_lt (with_digit number c) (2 ^ 16)) ≡ t → cond t (digits_from (with_digit number c) digits) None ≡ Some n → Read number (c ∷ digits) n
    by_test ih true s k =
        let d = digit_test number c s in
        let r = ih d.2 k in
        record {
          small = r.small;
          text = λ g. r.text (omega arith) ∙ ap (λ t. t ++ digits) (with_last number c g d.0 d.1 d.2) ∙ append_assoc (decimal number) (c ∷ []) digits;
        }
    by_test ih false s k = absurd (cc)

first_digit : (c : ℕ) (digits : List ℕ) (n : ℕ) → digits_from 0 (c ∷ digits) ≡ Some n → (48 ≤ c) × (c ≤ 57) × (digits_from (c - 48) digits ≡ Some n)
first_digit c digits n e = by_test (is_digit c && nat_lt (with_digit 0 c) (2 ^ 16)) refl e
  where
    by_test : (t : Bool) → (is_digit c && nat_lt (with_digit 0 c) (2 ^ 16)) ≡ t → cond t (digits_from (with_digit 0 c) digits) None ≡ Some n → (48 ≤ c) × (c ≤ 57) × (digits_from (c - 48) digits ≡ Some n)
    by_test true s k =
        let d = digit_test 0 c s in
        let same : with_digit 0 c ≡ c - 48 = omega arith in
        (d.0, d.1, ap (λ m. digits_from m digits) (sym same) ∙ k)
    by_test false s k = absurd (cc)

one_digit : (c : ℕ) → 48 ≤ c → c ≤ 57 → decimal (c - 48) ≡ c ∷ []
one_digit c h g = let same : 48 + (c - 48) ≡ c = omega arith in decimal_digit (c - 48) (omega arith) ∙ ap (λ d. d ∷ []) same

-- the text of a number that was read
pub decimal-number_of : (text : List ℕ) (n : ℕ) → number_of text ≡ Some n → (text ≡ decimal n) × (n < 2 ^ 16)
decimal-number_of [] n h = absurd (cc)
decimal-number_of (c ∷ []) n h =
    let f = first_digit c [] n h in
    let same : c - 48 ≡ n = let s = f.2 in cc in
    (sym (one_digit c f.0 f.1) ∙ ap decimal same, omega arith)
decimal-number_of (c ∷ d ∷ digits) n h = by_test (c == 48) refl h
  where
    by_test : (t : Bool) → (c == 48) ≡ t → cond t None (digits_from 0 (c ∷ d ∷ digits)) ≡ Some n → ((c ∷ d ∷ digits) ≡ decimal n) × (n < 2 ^ 16)
    by_test true s k = absurd (cc)
    by_test false s k =
        let f = first_digit c (d ∷ digits) n k in
        let r = read (d ∷ digits) (c - 48) n (omega arith) f.2 in
        let above : 0 < c - 48 = (let apart = eqb-false c 48 s in omega arith) in
        (sym (r.text above ∙ ap (λ t. t ++ d ∷ digits) (one_digit c f.0 f.1)), r.small)
