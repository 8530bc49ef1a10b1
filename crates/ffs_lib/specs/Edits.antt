-- An edit that writes bytes at one place, and the blocks that one gives up.
--     edit_at                          the edit
--     data_of_pointers, data_of_inode  the blocks that a block of pointers points to; those that an inode does
use Rattle.std.specs.Prelude.{ℕ, List, [], ◌∷◌, Option}
use Rattle.xn_model.specs.Lists.{blocks_of}
use Rattle.xn_model.specs.Calls.{Edit}
use Rattle.ffs_model.specs.Library.{inode_pairs, pointed, pointer_word}

abbrev pub edit_at : ℕ → List ℕ → List (ℕ × ℕ) → List ℕ → Option ℕ → Edit
edit_at offset bytes adds drops after = record { patches = record { offset = offset; bytes = bytes } ∷ []; adds = adds; drops = drops; after = after }

abbrev pub data_of_pointers : List ℕ → List ℕ
data_of_pointers m = blocks_of (pointed (pointer_word m) 128 2)

-- the direct ones, then the block of pointers
abbrev pub data_of_inode : List ℕ → List ℕ
data_of_inode inode = blocks_of (inode_pairs inode 0)
