-- Paths of pointers, and how far they lead. A path is the offsets of its pointers, the last one first.
--     reach content top offsets    the last block of a path that is there, and how many behind it are missing
--     end_of reach                 the block to which the whole path leads; 0 where one is missing
--     path_blocks content top offsets    the blocks on a path
--     holder_steps leaf            the path to the block that has the pointer to a leaf
--     pointer_offset leaf          where it stands there
--     behind leaf levels           the first leaf behind all that stand below the block so many levels above a leaf
use Rattle.std.specs.Prelude.{ℕ, zero, suc, ◌+◌, ◌*◌, ◌/◌, ◌^◌, ◌==◌, List, [], ◌∷◌, ◌++◌, drop, slice_index, if◌then◌else◌}
use Rattle.treefs_format.specs.Paths.{first_leaf, height_of, place_in_tree, steps}
use Rattle.treefs_model.specs.Reading.{block_at, pointed}
use Rattle.treefs_lookup.specs.declared.paths.Reach.{Reach}

abbrev pub reached : ℕ → ℕ → Reach
reached block missing = record { block = block; missing = missing }

-- one pointer further, which leads to a block, or nowhere
abbrev pub stepped : ℕ → ℕ → Reach
stepped block next = if next == 0 then reached block 1 else reached next 0

abbrev pub further : (ℕ → List ℕ) → ℕ → Reach → Reach
further content offset r = if r.missing == 0 then stepped r.block (pointed content r.block offset) else reached r.block (r.missing + 1)

abbrev pub reach : (ℕ → List ℕ) → ℕ → List ℕ → Reach
reach content top [] = reached top 0
reach content top (offset ∷ offsets) = further content offset (reach content top offsets)

abbrev pub end_of : Reach → ℕ
end_of r = if r.missing == 0 then r.block else 0

-- the blocks on a path, from the top; 0 for each that is missing
abbrev pub path_blocks : (ℕ → List ℕ) → ℕ → List ℕ → List ℕ
path_blocks content top [] = []
path_blocks content top (offset ∷ offsets) = path_blocks content top offsets ++ block_at content top (offset ∷ offsets) ∷ []

abbrev pub holder_steps : ℕ → List ℕ
holder_steps leaf = drop 1 (steps leaf)

abbrev pub pointer_offset : ℕ → ℕ
pointer_offset leaf = slice_index (steps leaf) 0

-- the place of the block that is so many levels above the leaf at a place
abbrev pub place_above : ℕ → ℕ → ℕ
place_above zero place = place
place_above (suc levels) place = place_above levels (place / 127)

abbrev pub behind : ℕ → ℕ → ℕ
behind leaf levels = first_leaf (height_of leaf) + (place_above levels (place_in_tree leaf) + 1) * 127 ^ levels
