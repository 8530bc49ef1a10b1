-- What is known of blocks once edits are made that attach new ones, or rewrite a bucket.
use Rattle.std.proofs.Common.{◌≡◌, ◌≢◌, ◌⊎◌, ℕ, suc, List, [], ◌∷◌, refl, inl, inr}
use Rattle.std.specs.Prelude.{All}
use Rattle.xn_model.specs.Types.{Types}
use Rattle.xn_model.specs.Lives.{StoreState}
use Rattle.treefs_lookup.specs.Readable.{readable}
use Rattle.treefs_model.specs.Reading.{block_at}
use Rattle.treefs_values.specs.Kinds.{kinds}
use Rattle.treefs_values.specs.Ways.{IsWay, block_numbered}
use Rattle.treefs_values.proofs.Pending.{IsNew, IsOther, IsUnled, New}
use Rattle.treefs_values.proofs.Walks.{IsAt}

-- the block of a number, or one to which a way from it leads
abbrev pub IsRead : (ℕ → List ℕ) → ℕ → ℕ → Type 0
IsRead content top b = (b ≢ 0) × (((m : ℕ) × (b ≡ block_numbered content top m))
    ⊎ ((m k : ℕ) × (os : List ℕ) × IsWay os k × (b ≡ block_at content (block_numbered content top m) os)))

-- the block of a pointer on a way of the table
pub above_read : (content : ℕ → List ℕ) (top o l : ℕ) (q : List ℕ) → IsWay (o ∷ q) l → block_at content top q ≢ 0 → IsRead content top (block_at content top q)
above_read content top o l [] way there = (there, inl (0, refl))
above_read content top o l (p ∷ q) way there = (there, inr (0, suc l, p ∷ q, way.3, refl))

-- xs: those that were attached
pub record IsSince (T : Types) (fs node inode top : ℕ) (xs : List New) (old s : StoreState) : Type 0 where
  pub here : IsAt T fs node inode top s
  pub types : kinds s fs ≡ kinds old fs
  -- no other block changes but such as were read
  pub others : (b : ℕ) → (IsRead (readable old fs) top b → ⊥) → All (λ (x : New). x.block ≢ b) xs → readable s fs b ≡ readable old fs b
  pub unled : (b : ℕ) → All (λ (x : New). x.block ≢ b) xs → IsUnled node inode (kinds old fs) (readable old fs) b →
      IsUnled node inode (kinds s fs) (readable s fs) b
  pub keeps : (x : New) → IsNew node inode (kinds old fs) (readable old fs) top x → All (λ z. IsOther z x) xs →
      IsNew node inode (kinds s fs) (readable s fs) top x
