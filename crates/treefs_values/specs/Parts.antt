-- The blocks of an inode, and edits of one of them.
--     IsPartOf content top n b     the block of inode n, or one of its leaves
--     IsChangedAt b old new        other bytes in one block alone
use Rattle.std.specs.Prelude.{◌≡◌, ◌≢◌, ◌⊎◌, ℕ, List}
use Rattle.treefs_model.specs.Reading.{leaf_block}
use Rattle.treefs_values.specs.Ways.{block_numbered}

abbrev pub IsPartOf : (ℕ → List ℕ) → ℕ → ℕ → ℕ → Type 0
IsPartOf content top n b = (b ≡ block_numbered content top n) ⊎ ((i : ℕ) × (b ≡ leaf_block content (block_numbered content top n) i))

abbrev pub IsChangedAt : ℕ → (ℕ → List ℕ) → (ℕ → List ℕ) → Type 0
IsChangedAt b old new = (c : ℕ) → c ≢ b → new c ≡ old c
