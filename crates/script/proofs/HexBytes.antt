-- Bytes of zero blocks and of the text `-`.
use Rattle.std.proofs.Common.{◌≡◌, ℕ, ◌+◌, ◌-◌, ◌*◌, ◌≤◌, List, [], ◌∷◌, ◌++◌, length, drop, replicate, slice_index, inl, inr, arith, refl, sym, ◌∙◌, ap}
use Rattle.std.specs.Prelude.{◌↔◌, Err, IfOk, IfSome, IsSome, None, Ok, Option, Result, Some}
use Rattle.std.proofs.lemmas.Bool.{cases_lt, cases_eq}
use Rattle.std.proofs.lemmas.List.{get_or-replicate, get_or_past, get_or_append_left, get_or-drop, length-replicate, take_all}
use Rattle.std.proofs.Math.Seq.{get_or-append_right}
use Rattle.script.specs.Hex.{hex_byte, hex_digit_value, IsHex, SpellsBytes, SpellsBlock, block_with}

pub zeros_at : (n k : ℕ) → slice_index (replicate n 0) k ≡ 0
zeros_at n k = elim (cases_lt k n) [
  | inl within ↦ get_or-replicate n k 0 0 within
  | inr past ↦ get_or_past (replicate n 0) k 0 (omega (arith, length-replicate {A = ℕ} n 0))
]

-- past the digits
pub hex_byte-past : (text : List ℕ) (k : ℕ) → length text ≤ 2 * k → hex_byte text k ≡ 0
hex_byte-past text k le =
    let past : (i : ℕ) → length text ≤ i → hex_digit_value (slice_index text i) ≡ 0 = λ i h. ap hex_digit_value (get_or_past {X = ℕ} text i 0 h) in
    rw (past (2 * k) le, past (2 * k + 1) (omega arith)) refl

pub hex_byte-dash : (k : ℕ) → hex_byte (45 ∷ []) k ≡ 0
hex_byte-dash k = elim (cases_eq k 0) [ inl first ↦ ap (hex_byte (45 ∷ [])) first | inr later ↦ hex_byte-past (45 ∷ []) k (omega arith) ]

pub spells_block : (text bytes : List ℕ) → IsHex text → SpellsBytes text bytes → SpellsBlock text (block_with bytes)
spells_block text bytes hex spells k within =
    let few : length bytes ≤ 512 = omega (arith, hex.few, spells.count) in
    let rest = drop (length bytes) (replicate {A = ℕ} 512 0) in
    ap (λ (xs : List ℕ). slice_index (xs ++ drop (length xs) (replicate 512 0)) k) (take_all 512 bytes few) ∙ elim (cases_lt k (length bytes)) [
      | inl lt ↦ get_or_append_left bytes rest 0 k lt ∙ spells.each k lt
      | inr past ↦ get_or-append_right bytes rest k 0 past
          ∙ (get_or-drop (length bytes) (replicate 512 0) (k - length bytes) 0
          ∙ (zeros_at 512 (length bytes + (k - length bytes)) ∙ sym (hex_byte-past text k (omega (arith, spells.count)))))
    ]

-- what is read of a text is more, where that can be read
pub read_more : {A E H : Type 0} {P Q : A → Type 0} (r : Result (Option A) E) → IfOk r (λ read. IsSome read ↔ H) → IfOk r (λ read. IfSome read P) → (H → (a : A) → P a → Q a) →
    IfOk r (λ read. IfSome read Q)
read_more (Ok None) readable p more = tt
read_more (Ok (Some a)) readable p more = more (readable.0 refl) a p
read_more (Err fault) readable p more = tt
