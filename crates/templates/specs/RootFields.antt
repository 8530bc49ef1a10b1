-- The fields of block 0 that the code reads one by one.
use Rattle.std.specs.Prelude.{ℕ, Bool, bytes_eq, List, [], ◌∷◌, ◌++◌, take}
use Rattle.std.specs.Int.{w32, to_le_bytes}

abbrev pub root_mark : List ℕ
root_mark = 88 ∷ 78 ∷ 57 ∷ 55 ∷ []

abbrev pub has_mark : List ℕ → Bool
has_mark m = bytes_eq (take 4 m) root_mark

-- a root slot: the block and its type, four bytes each, the lowest byte first
abbrev pub slot_bytes : ℕ × ℕ → List ℕ
slot_bytes root = to_le_bytes w32 root.0 ++ to_le_bytes w32 root.1
