-- The inodes that no name leads to, numbers rising: they are to be freed.
use Rattle.std.specs.Prelude.{ℕ, Bool, List, [], ◌∷◌, flat_map, is_ok, not, ◌&&◌, if◌then◌else◌}
use Rattle.std.specs.List.{range_with_len}
use Rattle.treefs_lookup.specs.Inodes.{inode_found}
use Rattle.treefs_mending.specs.Surveys.{inode_count}
use Rattle.treefs_mending.specs.Tallies.{Tally, is_found}

abbrev pub is_orphan : (ℕ → List ℕ) → ℕ → List Tally → ℕ → Bool
is_orphan content top tallies n = is_ok (inode_found content top n) && not (is_found tallies n)

abbrev pub orphan_at : (ℕ → List ℕ) → ℕ → List Tally → ℕ → List ℕ
orphan_at content top tallies n = if is_orphan content top tallies n then n ∷ [] else []

-- of so many numbers, from one on
abbrev pub orphans_from : (ℕ → List ℕ) → ℕ → List Tally → ℕ → ℕ → List ℕ
orphans_from content top tallies n count = flat_map (orphan_at content top tallies) (range_with_len n count)

abbrev pub orphans_of : (ℕ → List ℕ) → ℕ → List Tally → List ℕ
orphans_of content top tallies = orphans_from content top tallies 1 inode_count
