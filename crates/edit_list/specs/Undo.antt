-- The patches that undo an edit of a block.
--     undo_at m p      the patch at the place of p that writes the bytes which m has there
--     undo_of m ps     the same for each of ps, in their order
use Rattle.std.specs.Prelude.{ℕ, List, length, map, take, drop}
use Rattle.xn_model.specs.Calls.{Patch}

abbrev pub undo_at : List ℕ → Patch → Patch
undo_at m p = record { offset = p.offset; bytes = take (length p.bytes) (drop p.offset m) }

abbrev pub undo_of : List ℕ → List Patch → List Patch
undo_of m ps = map (undo_at m) ps
