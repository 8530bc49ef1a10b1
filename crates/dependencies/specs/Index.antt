-- What is kept beside the lives of all blocks.
use Rattle.std.specs.Prelude.{◌≡◌, ℕ, ◌<◌, Bool, false, List, Option, map, is_none, Contains, slice_index, sum_by}
use Rattle.xn_model.specs.Lives.{Life, Lives, life_at, alive_and, is_owned_by}
use Rattle.xn_model.specs.Calls.{pending_in, life_pending}
use Rattle.dependencies.specs.Pending.{is_dirty}
use Rattle.dependencies.specs.Oldest.{AreOldest}
use Rattle.dependencies.specs.Candidates.{AreCandidates, CandidatesValue}
use Rattle.dependencies.specs.Homes.{AreHomes}

pub record IndexValue : Type 0 where
  -- which blocks are free
  pub free : List Bool
  -- how many pending entries count for each file system, and from which number on they lie
  pub pending : List ℕ
  pub oldest : List ℕ
  -- for which blocks something is pending
  pub dirty : List Bool
  pub candidates : CandidatesValue
  pub homes : List (ℕ × ℕ)

-- what is counted of lives: which blocks are free, and the pending entries of each file system
pub record IsCounted (lives : Lives) (free : List Bool) (pending : List ℕ) : Type 0 where
  pub marked : free ≡ map is_none lives
  pub counts : (fs : ℕ) → fs < 32 → slice_index pending fs ≡ sum_by (pending_in fs) lives

-- the index of these lives
pub record IsIndex (lives : Lives) (index : IndexValue) : Type 0 where
  pub counted : IsCounted lives index.free index.pending
  pub oldest : AreOldest lives index.oldest
  pub dirty : index.dirty ≡ map is_dirty lives
  pub candidates : AreCandidates lives index.candidates
  pub homes : AreHomes lives index.homes

-- no block owns it
abbrev pub IsUnowned : Option Life → Type 0
IsUnowned o = (a : ℕ) → alive_and (λ l. is_owned_by a l.status) o ≡ false

-- blocks whose lives may end with a write of this block: not this one, with nothing pending, and owned by none
pub record MayFree (lives : Lives) (b : ℕ) (drops : List ℕ) : Type 0 where
  pub apart : ¬ Contains drops b
  pub at_rest : (c : ℕ) → Contains drops c → life_pending (life_at lives c) ≡ 0
  pub unowned : (c : ℕ) → Contains drops c → IsUnowned (life_at lives c)
