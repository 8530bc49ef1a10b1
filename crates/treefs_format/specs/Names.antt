-- Names: 1 to 255 bytes, none of them 0 or a slash, and neither one dot nor two.
use Rattle.std.specs.Prelude.{ℕ, ◌==◌, Bool, not, ◌&&◌, ◌||◌, List, [], ◌∷◌, length, nat_le, bytes_eq}
use Rattle.std.specs.List.{list_all}

abbrev pub is_name_byte : ℕ → Bool
is_name_byte byte = not (byte == 0) && not (byte == 47)

abbrev pub is_name_length : ℕ → Bool
is_name_length length = nat_le 1 length && nat_le length 255

-- a directory itself, and the one that it stands in
abbrev pub is_dots : List ℕ → Bool
is_dots name = bytes_eq name (46 ∷ []) || bytes_eq name (46 ∷ 46 ∷ [])

abbrev pub is_name : List ℕ → Bool
is_name name = is_name_length (length name) && (list_all is_name_byte name && not (is_dots name))
