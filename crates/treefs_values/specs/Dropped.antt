-- Pointers of one block that come to lead nowhere, and the blocks to which they led.
--     with_blocks          a function of blocks, with one value for some of them
--     zero_patch, clear_act     so many pointers from an offset on become 0; an edit that does so and drops blocks
--     AreOverPointers      each word that becomes 0 is a pointer
--     IsCovered            an offset at which a pointer becomes 0
--     IsLedTo, IsLost      a block to which such a pointer leads; one to which it led, and that may not be read any more
--     AreDropped           such pointers lead nowhere, and all else that is read is as before, but for the blocks to which they led
--     IsHolderWay          a way to an inode, or to a node of its tree
--     LeadsOn, IsPast      a way leads on from the end of another one; it leads on to no byte before a size
use Rattle.std.specs.Prelude.{◌≡◌, ◌≢◌, ◌⊎◌, ℕ, suc, ◌+◌, ◌*◌, ◌/◌, ◌<◌, ◌≤◌, Contains, IsTrue, List, [], ◌++◌, map, replicate, Option, None, if◌then◌else◌}
use Rattle.xn_model.specs.Calls.{Patch}
use Rattle.xn_model.specs.Lists.{has_number}
use Rattle.treefs_format.specs.Fields.{fields_of}
use Rattle.treefs_format.specs.Inodes.{content_of}
use Rattle.treefs_format.specs.Paths.{steps}
use Rattle.treefs_model.specs.Acts.{Act}
use Rattle.treefs_model.specs.Reading.{pointed}
use Rattle.treefs_model.specs.Trees.{has_pointer}
use Rattle.treefs_values.specs.Ways.{IsWay}

abbrev pub with_blocks : {A : Type 0} → (ℕ → A) → List ℕ → A → ℕ → A
with_blocks old blocks x c = if has_number blocks c then x else old c

-- an offset, and how many pointers stand side by side from it on
abbrev pub zero_patch : ℕ × ℕ → Patch
zero_patch p = record { offset = p.0; bytes = replicate (4 * p.1) 0 }

abbrev pub clear_act : ℕ → List (ℕ × ℕ) → List ℕ → Option ℕ → Act
clear_act block places blocks behind = record {
  block = block;
  edit = record { patches = map zero_patch places; adds = []; drops = blocks; after = None };
  behind = behind;
}

-- of a block of type t, with some pointers
abbrev pub AreOverPointers : ℕ → ℕ → ℕ → ℕ × ℕ → Type 0
AreOverPointers node inode t p = (0 < p.1) × ((i : ℕ) → i < p.1 → IsTrue (has_pointer node inode t (p.0 + 4 * i)))

abbrev pub IsCovered : List (ℕ × ℕ) → ℕ → Type 0
IsCovered places o = (p : ℕ × ℕ) × Contains places p × (i : ℕ) × (i < p.1) × (o ≡ p.0 + 4 * i)

abbrev pub IsLedTo : (ℕ → List ℕ) → ℕ → List (ℕ × ℕ) → ℕ → Type 0
IsLedTo content holder places b = (b ≢ 0) × (o : ℕ) × IsCovered places o × (pointed content holder o ≡ b)

pub record IsLost (node inode : ℕ) (type type' : ℕ → ℕ) (old new : ℕ → List ℕ) (holder : ℕ) (places : List (ℕ × ℕ)) (b : ℕ) : Type 0 where
  pub there : b ≢ 0
  pub unread : type' b ≡ 0
  pub offset : ℕ
  pub covered : IsCovered places offset
  pub pointer : IsTrue (has_pointer node inode (type holder) offset)
  pub led : pointed old holder offset ≡ b
  pub nowhere : pointed new holder offset ≡ 0

-- type, type': those of blocks before and then
pub record AreDropped (node inode : ℕ) (type type' : ℕ → ℕ) (old new : ℕ → List ℕ) (holder : ℕ) (places : List (ℕ × ℕ)) : Type 0 where
  pub typed : type' holder ≡ type holder
  pub pointers : (o : ℕ) → IsTrue (has_pointer node inode (type holder) o) →
      (pointed new holder o ≡ pointed old holder o) ⊎ (IsCovered places o × (pointed new holder o ≡ 0))
  pub others : (b : ℕ) → b ≢ holder → ((type' b ≡ type b) × (new b ≡ old b)) ⊎ IsLost node inode type type' old new holder places b
  -- of an inode the fields and the content, too
  pub fields : type holder ≡ inode → fields_of (new holder) ≡ fields_of (old holder)
  pub contents : type holder ≡ inode → content_of (new holder) ≡ content_of (old holder)

-- none: the inode itself
abbrev pub IsHolderWay : List ℕ → Type 0
IsHolderWay above = (above ≡ []) ⊎ ((l : ℕ) × IsWay above (suc l))

abbrev pub LeadsOn : List ℕ → List ℕ → Type 0
LeadsOn way from = (further : List ℕ) × (way ≡ further ++ from)

-- the first 384 bytes stand in the inode
abbrev pub IsPast : ℕ → List ℕ → Type 0
IsPast size way = (p : ℕ) → 384 ≤ p → p < size → LeadsOn (steps (p / 512)) way → ⊥
