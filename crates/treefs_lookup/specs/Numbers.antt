-- Numbers for new inodes, each with a leaf of inode 0.
--     CanGive          a leaf that is missing, and whose pointer's block, where that is there, has at most 60 pending entries
--     IsCrowded        the pointer's block is there, and has more
--     IsNextFree, IsNoneFree      the first leaf at or past one that can be given; there is none
--     turn             where a number stands in the order from a hint on to the last one, and then from 1 on
--     IsNextNumber     the first number in this order whose leaf can be given
use Rattle.std.specs.Prelude.{◌≡◌, ◌≢◌, ◌⊎◌, ℕ, ◌+◌, ◌<◌, ◌≤◌, nat_lt, List, if◌then◌else◌}
use Rattle.xn_model.specs.Lives.{StoreState}
use Rattle.xn_model.specs.PendingIn.{pending_in_of}
use Rattle.treefs_format.specs.Paths.{last_beside, leaf_count}
use Rattle.treefs_format.specs.Roots.{leaf_of_inode}
use Rattle.treefs_model.specs.Reading.{leaf_block, pointed}
use Rattle.treefs_model.specs.declared.fault.Fault.{Fault}
use Rattle.treefs_model.specs.declared.fault.Fault.TheVariants.{Full, NoInode}
use Rattle.treefs_lookup.specs.Readable.{readable}
use Rattle.treefs_lookup.specs.Walks.{holder_steps, pointer_offset, reach}
use Rattle.treefs_lookup.specs.declared.paths.Reach.{Reach}

-- how far the path to the block with a leaf's pointer leads
abbrev pub holder_of : StoreState → ℕ → ℕ → ℕ → Reach
holder_of state fs top leaf = reach (readable state fs) top (holder_steps leaf)

pub record CanGive (state : StoreState) (fs top leaf : ℕ) : Type 0 where
  pub free : leaf_block (readable state fs) top leaf ≡ 0
  pub calm : (holder_of state fs top leaf).missing ≡ 0 → pending_in_of state (holder_of state fs top leaf).block ≤ 60

pub record IsCrowded (state : StoreState) (fs top leaf : ℕ) : Type 0 where
  pub there : (holder_of state fs top leaf).missing ≡ 0
  pub many : 60 < pending_in_of state (holder_of state fs top leaf).block

abbrev pub NoneCanGive : StoreState → ℕ → ℕ → ℕ → ℕ → Type 0
NoneCanGive state fs top from to = (leaf : ℕ) → from ≤ leaf → leaf < to → CanGive state fs top leaf → ⊥

abbrev pub SomeIsCrowded : StoreState → ℕ → ℕ → ℕ → ℕ → Type 0
SomeIsCrowded state fs top from to = (leaf : ℕ) × ((from ≤ leaf) × (leaf < to) × IsCrowded state fs top leaf)

pub record IsNextFree (state : StoreState) (fs top from leaf : ℕ) : Type 0 where
  pub past : from ≤ leaf
  pub few : leaf < leaf_count
  pub can : CanGive state fs top leaf
  pub first : NoneCanGive state fs top from leaf

pub record IsNoneFree (state : StoreState) (fs top from : ℕ) (fault : Fault) : Type 0 where
  pub none : NoneCanGive state fs top from leaf_count
  -- `Full` where one was passed over
  pub why : ((fault ≡ Full) × SomeIsCrowded state fs top from leaf_count) ⊎ ((fault ≡ NoInode) × (SomeIsCrowded state fs top from leaf_count → ⊥))

abbrev pub turn : ℕ → ℕ → ℕ
turn hint n = if nat_lt n hint then n + leaf_count else n

pub record IsNextNumber (state : StoreState) (fs top hint n : ℕ) : Type 0 where
  pub some : 1 ≤ n
  pub few : n ≤ leaf_count
  pub can : CanGive state fs top (leaf_of_inode n)
  pub first : (m : ℕ) → 1 ≤ m → m ≤ leaf_count → turn hint m < turn hint n → CanGive state fs top (leaf_of_inode m) → ⊥

-- Pointers side by side in one block

-- the leaves from one on, up to another, have a pointer there; the first one whose pointer is 0
abbrev pub ArePointed : (ℕ → List ℕ) → ℕ → ℕ → ℕ → Type 0
ArePointed content holder from to = (leaf : ℕ) → from ≤ leaf → leaf < to → pointed content holder (pointer_offset leaf) ≢ 0

pub record IsFirstEmpty (content : ℕ → List ℕ) (holder from leaf : ℕ) : Type 0 where
  pub past : from ≤ leaf
  pub beside : leaf ≤ last_beside from
  pub empty : pointed content holder (pointer_offset leaf) ≡ 0
  pub first : ArePointed content holder from leaf
