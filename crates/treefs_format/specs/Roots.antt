-- Inode 0, whose leaves are the inodes: leaf n - 1 is inode n.
--     root_content key clean    what its content begins with: a mark, the key of the names' hash, whether the volume was closed
--     root_in content           the key and that byte, where the mark stands
use Rattle.std.specs.Prelude.{ℕ, ◌-◌, ◌==◌, Bool, List, [], ◌∷◌, ◌++◌, take, drop, slice_index, bytes_eq, codes}
use Rattle.std.specs.Int.{from_bool}

-- "XNTREE1" and a byte 0
abbrev pub root_mark : List ℕ
root_mark = codes "XNTREE1" ++ 0 ∷ []

abbrev pub root_content : List ℕ → Bool → List ℕ
root_content key clean = root_mark ++ (key ++ from_bool clean ∷ [])

-- the leaf of inode 0 in which an inode stands
abbrev pub leaf_of_inode : ℕ → ℕ
leaf_of_inode number = number - 1

abbrev pub is_marked : List ℕ → Bool
is_marked content = bytes_eq (take 8 content) root_mark

abbrev pub key_of : List ℕ → List ℕ
key_of content = take 16 (drop 8 content)

-- closed, and not opened since
abbrev pub is_clean : List ℕ → Bool
is_clean content = slice_index content 24 == 1
