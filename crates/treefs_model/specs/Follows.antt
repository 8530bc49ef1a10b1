-- What a cut takes along: where it takes this, it takes each of those entries.
--     Follows lives source those    a cut with the source takes each pending entry that counts
use Rattle.std.specs.Prelude.{◌≡◌, ◌⊎◌, ℕ, Some, Contains}
use Rattle.xn_model.specs.Lives.{BlockState, Life, Lives, life_at}
use Rattle.ffs_model.specs.Cuts.{Choice, IsCut, IsFullAt, taken}
use Rattle.treefs_model.specs.Acts.{Act}

abbrev pub Follows : Lives → (Choice → Type 0) → (ℕ → BlockState → Type 0) → Type 0
Follows lives source those = (k : Choice) (x : ℕ) (m : Life) (t : BlockState) → IsCut lives k → source k → life_at lives x ≡ Some m → Contains m.pending t →
    those x t → Contains (taken k x m) t

-- What an edit must be for that: those of before were so, or are of a block at which each such cut is full; and such a cut takes the edit, if that counts.
pub record KeepsAlong (act : Act) (old new : Lives) (number : ℕ) (source source' : Choice → Type 0) (those those' : ℕ → BlockState → Type 0) : Type 0 where
  pub source_was : (k : Choice) → IsCut new k → source' k → source k
  pub those_were : (k : Choice) (x : ℕ) (t : BlockState) → IsCut new k → source' k → those' x t → those x t ⊎ IsFullAt old k x
  pub edit : (k : Choice) (t : BlockState) → IsCut new k → source' k → t.entry ≡ number → those' act.block t → IsFullAt new k act.block
