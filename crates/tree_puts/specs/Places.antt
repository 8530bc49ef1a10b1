-- Where the pieces of a file are written, one behind the other.
--     place_behind     where the byte behind some pieces stands
--     placed           what is written of each piece, from a place on
--     whole_writes     what is written of a piece of a file without holes, whose first 384 bytes are written already
--     BeginsWith       the first piece
--     AreFull          each has as many bytes as there is room for
--     IsAll            those of a whole file: all but the last one are full, and that is not
use Rattle.std.specs.Prelude.{◌≡◌, ◌⊎◌, ℕ, ◌+◌, ◌-◌, ◌^◌, ◌==◌, ◌<◌, min, if◌then◌else◌, List, [], ◌∷◌, ◌++◌, length, drop}
use Rattle.std.specs.List.{AllByRecursion}

abbrev pub place_behind : ℕ → List (List ℕ) → ℕ
place_behind at [] = at
place_behind at (piece ∷ pieces) = place_behind (min (at + length piece) (2 ^ 64 - 1)) pieces

-- write: what is written of the piece whose first byte stands there in the file
abbrev pub placed : (ℕ → List ℕ → List (ℕ × List ℕ)) → ℕ → List (List ℕ) → List (ℕ × List ℕ)
placed write at [] = []
placed write at (piece ∷ pieces) = write at piece ++ placed write (min (at + length piece) (2 ^ 64 - 1)) pieces

abbrev pub whole_writes : ℕ → List ℕ → List (ℕ × List ℕ)
whole_writes at piece = (if at == 0 then (384, drop 384 piece) else (at, piece)) ∷ []

abbrev pub BeginsWith : List ℕ → List (List ℕ) → Type 0
BeginsWith first pieces = (others : List (List ℕ)) × (pieces ≡ first ∷ others)

abbrev pub AreFull : ℕ → List (List ℕ) → Type 0
AreFull room pieces = AllByRecursion (λ piece. length piece ≡ room) pieces

-- more pieces than a number has are not asked for
abbrev pub IsAll : ℕ → List (List ℕ) → Type 0
IsAll room pieces = ((before : List (List ℕ)) × (last : List ℕ) × (pieces ≡ before ++ last ∷ []) × AreFull room before × (length last < room))
    ⊎ (AreFull room pieces × (length pieces ≡ 2 ^ 64 - 1))
