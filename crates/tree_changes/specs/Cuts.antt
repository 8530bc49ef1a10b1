-- Where a text is cut, and what it tells.
--     IsTold           what a text tells, if it tells anything
--     before_byte      what stands before the first such byte, or the whole text
--     behind_byte      what stands behind it, where there is one
use Rattle.std.specs.Prelude.{ℕ, ◌==◌, nat_lt, if◌then◌else◌, List, length, Option, None, Some}
use Rattle.std.specs.List.{after_first, before_first, position_or_len}

abbrev pub IsTold : {A : Type 0} → (A → Type 0) → Option A → Type 0
IsTold {A} Tells None = (value : A) → ¬ Tells value
IsTold Tells (Some value) = Tells value

abbrev pub before_byte : ℕ → List ℕ → List ℕ
before_byte byte text = before_first (λ other. other == byte) text

abbrev pub behind_byte : ℕ → List ℕ → Option (List ℕ)
behind_byte byte text =
    if nat_lt (position_or_len (λ other. other == byte) text) (length text) then Some (after_first (λ other. other == byte) text) else None
