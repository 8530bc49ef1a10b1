-- What an edit that was made did to the cuts.
--     type_at lives b            the type of a block's life
--     FullBehind lives k y       all states of the block are taken behind which an edit stands, if there is one
--     TakesIt, LeavesIt          a cut after the edit that takes it, and one that does not
--     Edited                     each cut after it is one of the two, and what it did to the newest states
use Rattle.std.specs.Prelude.{◌≡◌, ◌≢◌, ◌⊎◌, ℕ, List, Option, None, Some, Contains, ⊤}
use Rattle.store_types.specs.declared.status.Status.TheVariants.{Fresh}
use Rattle.xn_model.specs.Types.{Types}
use Rattle.xn_model.specs.Lives.{BlockState, Life, Lives, life_at}
use Rattle.xn_model.specs.Calls.{patched}
use Rattle.ffs_model.specs.Cuts.{Choice, IsChosen, IsCut, IsFullAt, Takes, latest, seen, taken}
use Rattle.treefs_model.specs.Acts.{Act}

abbrev pub type_in : Option Life → ℕ
type_in None = 0
type_in (Some l) = l.ty

abbrev pub type_at : Lives → ℕ → ℕ
type_at lives b = type_in (life_at lives b)

-- the block is alive, and of the file system
abbrev pub system_in : Option Life → Option ℕ
system_in None = None
system_in (Some l) = l.fs

abbrev pub IsOwn : ℕ → Lives → ℕ → Type 0
IsOwn fs lives b = system_in (life_at lives b) ≡ Some fs

-- what a block points to, with these contents
abbrev pub Points : Types → Lives → (ℕ → List ℕ) → ℕ → ℕ × ℕ → Type 0
Points T lives content b p = Contains (T.owned (type_at lives b) (content b)) p

abbrev pub FullBehind : Lives → Choice → Option ℕ → Type 0
FullBehind lives k None = ⊤
FullBehind lives k (Some y) = IsFullAt lives k y

-- A pending state after the edit was pending before, and is taken where it was; or it is the edit's.
pub record WasPending (old : Lives) (x : ℕ) (now : Life) (t : BlockState) : Type 0 where
  pub life : Life
  pub alive : life_at old x ≡ Some life
  pub there : Contains life.pending t
  pub took : (k : Choice) → Contains (taken k x life) t → Contains (taken k x now) t

-- C + e: a cut that takes the edit is a cut of before that is full at its block, at what it drops, and at the block behind which it stands.
pub record TakesIt (act : Act) (old new : Lives) (k : Choice) : Type 0 where
  pub full : IsFullAt old k act.block
  pub all : IsFullAt new k act.block
  pub others : (c : ℕ) → c ≢ act.block → seen new k c ≡ seen old k c
  pub adds : (c u : ℕ) → Contains act.edit.adds (c, u) → IsChosen old k c
  pub drops : (c : ℕ) → Contains act.edit.drops c → IsFullAt old k c
  pub behind : FullBehind old k act.behind

-- C: one that does not take it shows what it showed before.
pub record LeavesIt (act : Act) (old new : Lives) (k : Choice) : Type 0 where
  pub short : IsFullAt new k act.block → ⊥
  pub same : seen new k ≡ seen old k

-- The same choice is a cut before.
pub record IsCutBefore (act : Act) (old new : Lives) (number : ℕ) (k : Choice) : Type 0 where
  pub cut : IsCut old k
  pub full : (c : ℕ) → IsFullAt new k c → IsFullAt old k c
  pub takes : (n : ℕ) → Takes new k n → Takes old k n
  -- and takes no entry more
  pub took : (n : ℕ) → n ≢ number → Takes old k n → Takes new k n
  -- other blocks have no state more
  pub still : (c : ℕ) → c ≢ act.block → IsFullAt old k c → IsFullAt new k c
  pub case : TakesIt act old new k ⊎ LeavesIt act old new k

pub record Edited (T : Types) (act : Act) (old new : Lives) (number : ℕ) : Type 0 where
  pub cuts : (k : Choice) → IsCut new k → IsCutBefore act old new number k
  pub here : latest new act.block ≡ patched (latest old act.block) act.edit.patches
  pub others : (c : ℕ) → c ≢ act.block → latest new c ≡ latest old c
  pub types : (c : ℕ) → type_at new c ≡ type_at old c
  pub systems : (c : ℕ) → system_in (life_at new c) ≡ system_in (life_at old c)
  -- what the block points to now it pointed to before, and doesn't drop it, or it is added
  pub points : (c u : ℕ) → Points T new (latest new) act.block (c, u) → (Points T old (latest old) act.block (c, u) × (Contains act.edit.drops c →
      ⊥)) ⊎ Contains act.edit.adds (c, u)
  pub pending : (x : ℕ) (m : Life) (t : BlockState) → life_at new x ≡ Some m → Contains m.pending t →
      WasPending old x m t ⊎ ((x ≡ act.block) × (t.entry ≡ number))
  -- what is added had no owner
  pub fresh : (c u : ℕ) → Contains act.edit.adds (c, u) → (l : Life) × (life_at old c ≡ Some l) × (l.status ≡ Fresh)
