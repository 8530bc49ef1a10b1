-- Records of names, one behind the other: an inode number in four bytes, the length of the name in one, the name.
--     Entry               what a record says: its number, 0 where it is dead, and its name
--     entry_bytes e       its bytes
--     entries_of bytes    those that bytes begin with. A length 0, a name that goes past the end, or fewer than 5 bytes end them.
--     Record, records_of  the same, each with the place at which its record begins
--     end_of bytes        the place behind the last record
use Rattle.std.specs.Prelude.{ℕ, zero, suc, ◌+◌, ◌==◌, Bool, not, ◌&&◌, nat_le, nat_lt, List, [], ◌∷◌, ◌++◌, length, take, drop, flat_map, slice_index, if◌then◌else◌}
use Rattle.std.specs.Int.{w32, to_le_bytes}
use Rattle.xn_model.specs.Root.{word_at}

pub record Entry : Type 0 where
  pub number : ℕ
  pub name : List ℕ

pub record Record : Type 0 where
  pub offset : ℕ
  pub entry : Entry

abbrev pub entry_bytes : Entry → List ℕ
entry_bytes e = to_le_bytes w32 e.number ++ (length e.name ∷ e.name)

abbrev pub entry_length : Entry → ℕ
entry_length e = 5 + length e.name

abbrev pub joined : List Entry → List ℕ
joined entries = flat_map entry_bytes entries

-- how long the name of the first record is, if there is one
abbrev pub name_length : List ℕ → ℕ
name_length bytes = slice_index bytes 4

abbrev pub begins_record : List ℕ → Bool
begins_record bytes = nat_lt 0 (name_length bytes) && nat_le (5 + name_length bytes) (length bytes)

abbrev pub first_entry : List ℕ → Entry
first_entry bytes = record { number = word_at bytes 0; name = take (name_length bytes) (drop 5 bytes) }

-- the entries behind so many bytes
abbrev pub entries_behind : ℕ → List ℕ → List Entry
entries_behind skipped [] = []
entries_behind (suc skipped) (x ∷ bytes) = entries_behind skipped bytes
entries_behind zero (x ∷ bytes) =
    if begins_record (x ∷ bytes) then first_entry (x ∷ bytes) ∷ entries_behind (4 + name_length (x ∷ bytes)) bytes else []

unfoldable pub entries_of : List ℕ → List Entry
entries_of bytes = entries_behind 0 bytes

-- entries, the first one at a place, each behind the one before
abbrev pub placed : ℕ → List Entry → List Record
placed at [] = []
placed at (e ∷ entries) = record { offset = at; entry = e } ∷ placed (at + entry_length e) entries

abbrev pub records_of : List ℕ → List Record
records_of bytes = placed 0 (entries_of bytes)

abbrev pub total_length : List Entry → ℕ
total_length [] = 0
total_length (e ∷ entries) = entry_length e + total_length entries

abbrev pub end_of : List ℕ → ℕ
end_of bytes = total_length (entries_of bytes)

abbrev pub is_live : Entry → Bool
is_live e = not (e.number == 0)
