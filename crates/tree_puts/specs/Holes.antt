-- Which bytes of a file with holes are written.
--     is_sparse        whether a file of the system has holes that are worth it
--     are_zeros        zeros alone
--     parts            some bytes in parts of 4,096, the last of which may be short
--     part_end         where a part ends
--     stretches        from where to where bytes of a piece are written, part by part, as a part of zeros ends what is written in one call
--     is_left_open     whether the last part was left out
--     hole_writes      what is written of a piece, and where
--     hole_end         the zero that is written last where zeros at the end were left out
use Rattle.std.specs.Prelude.{ℕ, zero, suc, ◌+◌, ◌-◌, ◌^◌, ◌==◌, ◌&&◌, min, nat_le, nat_lt, if◌then◌else◌, Bool, false, List, [], ◌∷◌, length, map, take, drop}
use Rattle.std.specs.List.{list_all}
use Rattle.host_trees.specs.declared.attributes.Attributes.{Attributes}
use Rattle.tree_puts.specs.Places.{place_behind}

abbrev pub is_sparse : Attributes → Bool
is_sparse told = nat_le 65536 told.size && nat_le (min (told.held + 4096) (2 ^ 64 - 1)) told.size

abbrev pub are_zeros : List ℕ → Bool
are_zeros bytes = list_all (λ byte. byte == 0) bytes

-- at most so many parts
unfoldable pub parts_of : ℕ → ℕ → List ℕ → List (List ℕ)
parts_of size zero bytes = []
parts_of size (suc most) [] = []
parts_of size (suc most) (byte ∷ bytes) = take size (byte ∷ bytes) ∷ parts_of size most (drop size (byte ∷ bytes))

abbrev pub parts : List ℕ → List (List ℕ)
parts bytes = parts_of 4096 (length bytes) bytes

-- where the byte behind a part stands in its piece
abbrev pub part_end : ℕ → List ℕ → ℕ
part_end to part = min (to + length part) (2 ^ 64 - 1)

-- from: where the bytes begin that are not written yet; to: where the next part begins
abbrev pub stretches : ℕ → ℕ → List (List ℕ) → List (ℕ × ℕ)
stretches from to [] = (from, to) ∷ []
stretches from to (part ∷ parts) = if are_zeros part then (from, to) ∷ stretches (part_end to part) (part_end to part) parts
    else stretches from (part_end to part) parts

abbrev pub is_left_open : ℕ → ℕ → List (List ℕ) → Bool
is_left_open from to [] = from == to
is_left_open from to (part ∷ parts) = if are_zeros part then is_left_open (part_end to part) (part_end to part) parts
    else is_left_open from (part_end to part) parts

-- the first 384 bytes of a file are written already
abbrev pub first_unwritten : ℕ → ℕ
first_unwritten at = if at == 0 then 384 else 0

abbrev pub stretch_at : ℕ → List ℕ → ℕ × ℕ → ℕ × List ℕ
stretch_at at piece ends = (min (at + ends.0) (2 ^ 64 - 1), drop ends.0 (take ends.1 piece))

abbrev pub piece_stretches : ℕ → List ℕ → List (ℕ × List ℕ)
piece_stretches at piece = map (stretch_at at piece) (stretches (first_unwritten at) 0 (parts piece))

abbrev pub is_piece_open : ℕ → List ℕ → Bool
is_piece_open at piece = is_left_open (first_unwritten at) 0 (parts piece)

-- of the piece whose first byte stands there in the file
abbrev pub hole_writes : ℕ → List ℕ → List (ℕ × List ℕ)
hole_writes at piece = if length piece == 0 then [] else piece_stretches at piece

-- was: what is so of the pieces before
abbrev pub is_open_with : Bool → ℕ → List ℕ → Bool
is_open_with was at piece = if length piece == 0 then was else is_piece_open at piece

abbrev pub is_open_behind : ℕ → Bool → List (List ℕ) → Bool
is_open_behind at was [] = was
is_open_behind at was (piece ∷ pieces) =
    is_open_behind (min (at + length piece) (2 ^ 64 - 1)) (is_open_with was at piece) pieces

abbrev pub end_at : ℕ → List (ℕ × List ℕ)
end_at size = if nat_lt 384 size then (size - 1, 0 ∷ []) ∷ [] else []

abbrev pub hole_end : List (List ℕ) → List (ℕ × List ℕ)
hole_end pieces = if is_open_behind 0 false pieces then end_at (place_behind 0 pieces) else []
