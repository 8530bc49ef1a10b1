-- Two slots of directories in the cuts: one that names an inode which is moved, and one that comes to name it too.
--     SlotPair      the slots, and the inodes that they name at first
--     TakesAll      a cut has a block as it was newest in the first lives, or later
--     AreNamed      in each that has the second slot's block so, this names the one inode or the other; in each that has both so, one of the slots names
--                   the moved one
--     StayNamed     and the second slot names the moved inode in each that takes an edit
--     KeepsNamed    so it is, and a volume's rules hold
use Rattle.std.specs.Prelude.{◌≡◌, ◌≤◌, ◌⊎◌, ℕ, List, Option, Some, length}
use Rattle.xn_model.specs.Types.{Types}
use Rattle.xn_model.specs.Lives.{Life, Lives, StoreState, life_at}
use Rattle.ffs_model.specs.Cuts.{Choice, IsCut, Takes, seen}
use Rattle.ffs_model.specs.Names.{Layout}
use Rattle.ffs_model.specs.Volumes.{VolumeKeeps}

pub record SlotPair : Type 0 where
  pub from : ℕ × ℕ
  pub to : ℕ × ℕ
  pub moved : ℕ
  pub former : ℕ

abbrev pub named_at : Layout → (ℕ → List ℕ) → ℕ × ℕ → ℕ
named_at L content y = L.entry (content y.0) y.1

-- all states of the block are taken that were pending in those lives
abbrev pub TakesAll : Lives → Choice → ℕ → Type 0
TakesAll first k b = (l : Life) × (life_at first b ≡ Some l) × (length l.pending ≤ k b)

pub record AreNamed (L : Layout) (first lives : Lives) (p : SlotPair) : Type 0 where
  pub second : (k : Choice) → IsCut lives k → TakesAll first k p.to.0 → (named_at L (seen lives k) p.to ≡ p.former) ⊎ (named_at L (seen lives k) p.to ≡ p.moved)
  pub either : (k : Choice) → IsCut lives k → TakesAll first k p.from.0 → TakesAll first k p.to.0 →
      (named_at L (seen lives k) p.from ≡ p.moved) ⊎ (named_at L (seen lives k) p.to ≡ p.moved)

pub record StayNamed (L : Layout) (first lives : Lives) (p : SlotPair) (after : Option ℕ) : Type 0 where
  pub cuts : AreNamed L first lives p
  pub later : (e : ℕ) (k : Choice) → after ≡ Some e → IsCut lives k → Takes lives k e → named_at L (seen lives k) p.to ≡ p.moved

pub record KeepsNamed (T : Types) (L : Layout) (fs : ℕ) (array : ℕ → Option ℕ) (first : Lives) (p : SlotPair) (state : StoreState) : Type 0 where
  pub keeps : VolumeKeeps T L fs array state
  pub named : AreNamed L first state.lives p
