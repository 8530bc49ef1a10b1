-- Names that lead to a number in a cut lead to it in each cut that takes more.
--     Led E n         from inode 1, by edges from directories to numbers
--     IsWithin        a cut takes all that another takes
--     StaysLed        what names lead to in a cut they lead to in each one that takes all that it takes
use Rattle.std.specs.Prelude.{◌≡◌, ◌≢◌, ◌⊎◌, ℕ, ◌≤◌, List, Some, length}
use Rattle.xn_model.specs.Lives.{Life, Lives, life_at}
use Rattle.ffs_model.specs.Cuts.{Choice, IsCut, latest, seen}
use Rattle.treefs_model.specs.Acts.{Act}
use Rattle.treefs_model.specs.Edited.{TakesIt}

pub data Led (E : ℕ → ℕ → Type 0) : ℕ → Type 0 where
  top : Led E 1
  step : {d n : ℕ} → Led E d → E d n → Led E n

abbrev pub IsWithin : Lives → Choice → Choice → Type 0
IsWithin lives k j = (b : ℕ) (l : Life) → life_at lives b ≡ Some l → (k b ≤ j b) ⊎ (length l.pending ≤ j b)

-- E content d n: a live record of n in a bucket of the inode of d. Same lives k n: the cut has n's inode of newest
abbrev pub StaysLed : ((ℕ → List ℕ) → ℕ → ℕ → Type 0) → (Lives → Choice → ℕ → Type 0) → Lives → Type 0
StaysLed E Same lives = (k j : Choice) (n : ℕ) → IsCut lives k → IsCut lives j → IsWithin lives k j → Same lives k n → Led (E (seen lives k)) n →
    Led (E (latest lives)) n → Led (E (seen lives j)) n

-- An edit makes a record of n in directory d, and ends none.
pub record Makes (E : (ℕ → List ℕ) → ℕ → ℕ → Type 0) (Same : Lives → Choice → ℕ → Type 0) (act : Act) (old new : Lives) (d n : ℕ) : Type 0 where
  pub same : (k : Choice) (x : ℕ) → IsCut new k → Same new k x → Same old k x
  pub more : (k : Choice) (c x : ℕ) → IsCut new k → E (seen old k) c x → E (seen new k) c x
  pub made : (k : Choice) → IsCut new k → TakesIt act old new k → E (seen new k) d n
  pub only : (k : Choice) (c x : ℕ) → IsCut new k → TakesIt act old new k → E (seen new k) c x → E (seen old k) c x ⊎ ((c ≡ d) × (x ≡ n))
  -- d is led to in newest; what is led to in newest was so before, but for n
  pub same_d : (k : Choice) → IsCut new k → TakesIt act old new k → Same old k d
  pub known : Led (E (latest old)) d
  pub newest : (x : ℕ) → Led (E (latest new)) x → Led (E (latest old)) x ⊎ (x ≡ n)
  -- n is no directory with a name in a cut that takes it; or such a cut that leads to d leads to n without it
  pub below : ((k : Choice) (x : ℕ) → IsCut new k → TakesIt act old new k → E (seen new k) n x → ⊥)
      ⊎ ((k : Choice) → IsCut new k → TakesIt act old new k → Led (E (seen old k)) d → Led (E (seen old k)) n)
  -- a number that is new: no cut that doesn't take it leads to it
  pub fresh : Led (E (latest old)) n ⊎ ((k : Choice) → IsCut old k → Led (E (seen old k)) n → ⊥)

-- An edit ends a record of n in directory d, where each cut that takes it and leads to d leads to n still, if newest does.
pub record Ends (E : (ℕ → List ℕ) → ℕ → ℕ → Type 0) (Same : Lives → Choice → ℕ → Type 0) (act : Act) (old new : Lives) (d n : ℕ) : Type 0 where
  pub same : (k : Choice) (x : ℕ) → IsCut new k → Same new k x → Same old k x
  pub fewer : (k : Choice) (c x : ℕ) → IsCut new k → E (seen new k) c x → E (seen old k) c x
  pub only : (k : Choice) (c x : ℕ) → IsCut new k → TakesIt act old new k → E (seen old k) c x → E (seen new k) c x ⊎ ((c ≡ d) × (x ≡ n))
  pub newest : (x : ℕ) → Led (E (latest new)) x → Led (E (latest old)) x
  pub still : (k : Choice) → IsCut new k → TakesIt act old new k → Led (E (seen new k)) d → Led (E (seen new k)) n

-- In a cut, a directory's record stands in its parent, but for the one that moves.
pub record HasParents (E : ℕ → ℕ → Type 0) (parent : ℕ → ℕ) (mover : ℕ) : Type 0 where
  pub one : (d c : ℕ) → E d c → c ≢ mover → d ≡ parent c
  -- inode 1 stands in itself
  pub top : parent 1 ≡ 1

-- the parents of a number do not lead to another one
pub data IsApart (parent : ℕ → ℕ) (n : ℕ) : ℕ → Type 0 where
  root : n ≢ 1 → IsApart parent n 1
  below : {c : ℕ} → c ≢ n → IsApart parent n (parent c) → IsApart parent n c
