-- Node blocks: in byte 0 the type of what they point to, and 127 pointers.
use Rattle.std.specs.Prelude.{ℕ, List, ◌∷◌, slice_index}
use Rattle.xn_model.specs.BareDisks.{zeros}
use Rattle.xn_model.specs.Calls.{Patch}
use Rattle.treefs_format.specs.Numbers.{word_bytes, words_at}

abbrev pub child_type_of : List ℕ → ℕ
child_type_of m = slice_index m 0

-- 0 for none
abbrev pub children_of : List ℕ → List ℕ
children_of m = words_at m 4 127

-- a node that points to nothing
abbrev pub node_bytes : ℕ → List ℕ
node_bytes child_type = child_type ∷ zeros 511

-- a patch of pointers that stand side by side, in a node or an inode
abbrev pub pointers_patch : ℕ → List ℕ → Patch
pointers_patch offset blocks = record { offset = offset; bytes = word_bytes blocks }
