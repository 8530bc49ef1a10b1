-- The bits of a row of words.
use Rattle.std.proofs.Common.{◌≡◌, ℕ, ◌+◌, ◌-◌, ◌*◌, ◌/◌, ◌%◌, ◌^◌, ◌<◌, ◌≤◌, w64, min, true, false, eqb, List, length, get_or, replicate, sym, ◌∙◌, ap, arith, inl, inr}
use Rattle.std.specs.Prelude.{nat_lt}
use Rattle.std.specs.Int.{bit_at, trailing_zeros}
use Rattle.std.proofs.lemmas.Bool.{cases_eq, cases_lt, lt-ltb, le-ltb, false≢true}
use Rattle.std.proofs.lemmas.List.{get_or-replicate, get_or_past, length-replicate}
use Rattle.std.proofs.lemmas.Nat.{shr-shr, shr_le}
use Rattle.std.proofs.lemmas.Nat.Bits.{bit_at-trailing_zeros, bit_at-zero, bit_at_above, bit_at_ones, bit_at_ones_above}
use Rattle.free_map.specs.Bits.{has_bit, HasFirst, IsLowest, IsLowestBitFrom, IsLowestFrom, IsLowestIn, HasNone, HasNoneFrom, HasNoneInFrom}

-- a bit is set or not
is_set : (words : List ℕ) (at : ℕ) → bit_at (get_or words (at / 64) 0) (at % 64) ≡ 1 → has_bit words at ≡ true
is_set words at e = ap (λ b. eqb b 1) e

is_clear : (words : List ℕ) (at : ℕ) → bit_at (get_or words (at / 64) 0) (at % 64) ≡ 0 → has_bit words at ≡ false
is_clear words at e = ap (λ b. eqb b 1) e

-- a word that is 0 has no bit
pub blank_word : (words : List ℕ) (k : ℕ) → get_or words (k / 64) 0 ≡ 0 → has_bit words k ≡ false
blank_word words k e = is_clear words k (ap (λ w. bit_at w (k % 64)) e ∙ bit_at-zero (k % 64))

pub some_word : (words : List ℕ) (k : ℕ) → has_bit words k ≡ true → 0 < get_or words (k / 64) 0
some_word words k set =
    elim (cases_lt 0 (get_or words (k / 64) 0)) [
      | inl more ↦ more
      | inr none ↦ absurd (false≢true (sym (blank_word words k (omega (arith, none))) ∙ set))
    ]

-- so many words with no bit
abbrev pub blank_words : ℕ → List ℕ
blank_words count = replicate count 0

pub length-blank_words : (count : ℕ) → length (blank_words count) ≡ count
length-blank_words count = let zero' : ℕ = 0 in length-replicate count zero'

pub blank_row : (count : ℕ) (w : ℕ) → get_or (blank_words count) w 0 ≡ 0
blank_row count w =
    let zero' : ℕ = 0 in
    elim (cases_lt w count) [
      | inl within ↦ get_or-replicate count w zero' zero' within
      | inr past ↦ get_or_past (blank_words count) w 0 (omega (arith, past, length-blank_words count))
    ]

-- so many bits that are set, from the first on
pub first_bit : (words : List ℕ) (n k : ℕ) → HasFirst n words → has_bit words k ≡ nat_lt k n
first_bit words n k first =
    let word = first (k / 64) in
    elim (cases_lt k n) [
      | inl lt ↦
          let within : k % 64 < min 64 (n - 64 * (k / 64)) = omega (arith, lt) in
          is_set words k (ap (λ w. bit_at w (k % 64)) word ∙ bit_at_ones (min 64 (n - 64 * (k / 64))) (k % 64) within) ∙ sym (lt-ltb k n lt)
      | inr past ↦
          let above : min 64 (n - 64 * (k / 64)) ≤ k % 64 = omega (arith, past) in
          is_clear words k (ap (λ w. bit_at w (k % 64)) word ∙ bit_at_ones_above (min 64 (n - 64 * (k / 64))) (k % 64) above) ∙ sym (le-ltb k n past)
    ]

-- the lowest bit, from that of the first word that has some
pub lowest_of : (words : List ℕ) (w b : ℕ) → b < 64 → bit_at (get_or words w 0) b ≡ 1 → ((k : ℕ) → k < b → bit_at (get_or words w 0) k ≡ 0) →
    ((v : ℕ) → v < w → get_or words v 0 ≡ 0) → IsLowest words (64 * w + b)
lowest_of words w b few set low blank =
    let word : (64 * w + b) / 64 ≡ w = omega arith in
    let rest : (64 * w + b) % 64 ≡ b = omega arith in
    record {
      set = is_set words (64 * w + b) ((λ i. bit_at (get_or words (word i) 0) (rest i)) ∙ set);
      lowest = λ k lt.
          elim (cases_lt (k / 64) w) [
            | inl below ↦ blank_word words k (blank (k / 64) below)
            | inr from ↦
                let same : k / 64 ≡ w = omega (arith, lt, from, few) in
                let less : k % 64 < b = omega (arith, lt, same) in
                is_clear words k (ap (λ v. bit_at (get_or words v 0) (k % 64)) same ∙ low (k % 64) less)
          ];
    }

-- the lowest bit of a word that has some
pub lowest_in_word : (words : List ℕ) (w n : ℕ) → n < 2 ^ 64 → 0 < n → n ≡ get_or words w 0 → IsLowestIn words w (64 * w + trailing_zeros w64 n)
lowest_in_word words w n fits some is =
    let zeros = bit_at-trailing_zeros w64 n some fits in
    let b = trailing_zeros w64 n in
    let word : (64 * w + b) / 64 ≡ w = omega (arith, zeros.0) in
    let rest : (64 * w + b) % 64 ≡ b = omega (arith, zeros.0) in
    record {
      here = word;
      set = is_set words (64 * w + b) ((λ i. bit_at (get_or words (word i) 0) (rest i)) ∙ (ap (λ v. bit_at v b) (sym is) ∙ zeros.1));
      lowest = λ k in_word lt.
          let less : k % 64 < b = omega (arith, lt, in_word) in
          is_clear words k (ap (λ v. bit_at (get_or words v 0) (k % 64)) in_word ∙ (ap (λ v. bit_at v (k % 64)) (sym is) ∙ zeros.2 (k % 64) less));
    }

-- the lowest bit of all, in the first word that has some
pub lowest_in_first : (words : List ℕ) (w n : ℕ) → n < 2 ^ 64 → (n ≡ 0 → ⊥) → n ≡ get_or words w 0 → ((v : ℕ) → v < w → get_or words v 0 ≡ 0) →
    IsLowest words (64 * w + trailing_zeros w64 n)
lowest_in_first words w n fits some is blank =
    let zeros = bit_at-trailing_zeros w64 n (omega (arith, some)) fits in
    lowest_of words w (trailing_zeros w64 n) zeros.0 (ap (λ v. bit_at v (trailing_zeros w64 n)) (sym is) ∙ zeros.1)
    (λ k lt. ap (λ v. bit_at v k) (sym is) ∙ zeros.2 k lt) blank

pub none_of : (words : List ℕ) → ((w : ℕ) → w < length words → get_or words w 0 ≡ 0) → HasNone words
none_of words blank k =
    elim (cases_lt (k / 64) (length words)) [
      | inl within ↦ blank_word words k (blank (k / 64) within)
      | inr past ↦ blank_word words k (get_or_past words (k / 64) 0 past)
    ]

-- From a bit on

shifted : (n s j : ℕ) → bit_at (n / 2 ^ s) j ≡ bit_at n (s + j)
shifted n s j = ap (λ x. x % 2) (shr-shr n s j)

pub low_from : (n s : ℕ) → n < 2 ^ 64 → s < 64 → 0 < n / 2 ^ s → IsLowestBitFrom n s (s + trailing_zeros w64 (n / 2 ^ s))
low_from n s fits few some =
    let rest = n / 2 ^ s in
    let zeros = bit_at-trailing_zeros w64 rest some (omega (arith, fits, shr_le n s)) in
    let set = sym (shifted n s (trailing_zeros w64 rest)) ∙ zeros.1 in
    record {
      past = omega arith;
      within = elim (cases_lt (s + trailing_zeros w64 rest) 64) [
        | inl lt ↦ lt
        | inr past ↦ absurd (omega (arith, set, bit_at_above n 64 (s + trailing_zeros w64 rest) fits past))
      ];
      set = set;
      lowest = λ k from below.
          let same : k ≡ s + (k - s) = omega (arith, from) in
          ap (bit_at n) same ∙ (sym (shifted n s (k - s)) ∙ zeros.2 (k - s) (omega (arith, from, below)));
    }

pub none_from : (n s : ℕ) → n / 2 ^ s ≡ 0 → (k : ℕ) → s ≤ k → bit_at n k ≡ 0
none_from n s none k from =
    let same : k ≡ s + (k - s) = omega (arith, from) in
    ap (bit_at n) same ∙ (sym (shifted n s (k - s)) ∙ (ap (λ x. bit_at x (k - s)) none ∙ bit_at-zero (k - s)))

-- behind the first word, in a later one
pub later_low : (words : List ℕ) (at w b : ℕ) → HasNoneInFrom words at → at / 64 < w → ((v : ℕ) → at / 64 < v → v < w → get_or words v 0 ≡ 0) → IsLowestIn words w b → IsLowestFrom words at b
later_low words at w b none later blank low =
    let here = low.here in
    record {
      past = omega (arith, later, here);
      set = low.set;
      lowest = λ k from below. elim (cases_eq (k / 64) (at / 64)) [
        | inl first ↦ none k from first
        | inr other ↦ elim (cases_eq (k / 64) w) [
          | inl last ↦ low.lowest k last below
          | inr between ↦ blank_word words k (blank (k / 64) (omega (arith, from, other)) (omega (arith, below, here, between)))
        ]
      ];
    }

pub none_later : (words : List ℕ) (at : ℕ) → HasNoneInFrom words at → ((v : ℕ) → at / 64 < v → v < length words → get_or words v 0 ≡ 0) → HasNoneFrom words at
none_later words at none blank k from = elim (cases_eq (k / 64) (at / 64)) [
  | inl first ↦ none k from first
  | inr other ↦ elim (cases_lt (k / 64) (length words)) [
    | inl within ↦ blank_word words k (blank (k / 64) (omega (arith, from, other)) within)
    | inr past ↦ blank_word words k (get_or_past words (k / 64) 0 past)
  ]
]
