-- The leaves of an inode that are there.
--     AreMissing      none is there from one on, up to another
--     IsNextLeaf      the first one at or past a place
use Rattle.std.specs.Prelude.{◌≡◌, ◌≢◌, ℕ, ◌<◌, ◌≤◌, List}
use Rattle.treefs_format.specs.Paths.{leaf_count}
use Rattle.treefs_model.specs.Reading.{leaf_block}
use Rattle.treefs_lookup.specs.declared.leaves.Leaf.{Leaf}

abbrev pub AreMissing : (ℕ → List ℕ) → ℕ → ℕ → ℕ → Type 0
AreMissing content inode from to = (leaf : ℕ) → from ≤ leaf → leaf < to → leaf_block content inode leaf ≡ 0

pub record IsNextLeaf (content : ℕ → List ℕ) (inode from : ℕ) (leaf : Leaf) : Type 0 where
  pub past : from ≤ leaf.number
  pub few : leaf.number < leaf_count
  pub block : leaf.block ≡ leaf_block content inode leaf.number
  pub there : leaf.block ≢ 0
  pub first : AreMissing content inode from leaf.number
