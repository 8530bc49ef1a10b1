-- Names, and the 32 bytes of an entry of a directory.
use Rattle.std.specs.Prelude.{ℕ, ◌+◌, ◌-◌, ◌==◌, min, Bool, not, ◌&&◌, ◌||◌, List, [], ◌∷◌, ◌++◌, length, take, drop, replicate, get_or, nat_le, bytes_eq}
use Rattle.std.specs.List.{list_all}
use Rattle.std.specs.Int.{w16, to_le_bytes}

-- a byte that a name may have: neither 0 nor a slash
abbrev pub is_name_byte : ℕ → Bool
is_name_byte byte = not (byte == 0) && not (byte == 47)

abbrev pub is_name_length : ℕ → Bool
is_name_length length = nat_le 1 length && nat_le length 28

-- one dot or two: a directory itself, and the one that it stands in
abbrev pub is_dots : List ℕ → Bool
is_dots name = bytes_eq name (46 ∷ []) || bytes_eq name (46 ∷ 46 ∷ [])

abbrev pub is_name : List ℕ → Bool
is_name name = is_name_length (length name) && list_all is_name_byte name && not (is_dots name)

-- the entry that names an inode: its number, the length of the name, 0, the name, and zeros
abbrev pub entry_of : ℕ → List ℕ → List ℕ
entry_of inode name = to_le_bytes w16 inode ++ (length name ∷ 0 ∷ []) ++ name ++ replicate (28 - length name) 0

-- the name in the entry that begins at a byte
abbrev pub name_in : List ℕ → ℕ → List ℕ
name_in block at = take (min (get_or block (at + 2) 0) 28) (drop (at + 4) block)
