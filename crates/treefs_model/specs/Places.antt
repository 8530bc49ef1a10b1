-- Blocks in place: what points to a block that is not as it began stands in each cut.
--     Shape         how pointers are read
--     InPlace       of a state
--     IsWait        an edit that changes no byte, and stands behind the block's owner
--     KeepsPlaces   what an edit does to the blocks that count, and to those that had their wait
--     at            the block at the end of a path
use Rattle.std.specs.Prelude.{◌≡◌, ◌⊎◌, ◌==◌, ◌||◌, ℕ, Bool, List, [], ◌∷◌, Some, IsTrue, ⊤}
use Rattle.xn_model.specs.Lives.{Lives}
use Rattle.ffs_model.specs.Cuts.{Choice, IsCut, IsFullAt, latest, seen}
use Rattle.treefs_model.specs.Acts.{Act}
use Rattle.treefs_model.specs.Edited.{IsOwn, type_at}

pub record Shape : Type 0 where
  -- of a block of a type, the pointer at an offset: 0 for none, and where no pointer stands there
  pub pointer : ℕ → List ℕ → ℕ → ℕ
  -- bytes with no pointer and no record
  pub empty : List ℕ → Bool

-- a set of blocks
abbrev pub In : (ℕ → Bool) → ℕ → Type 0
In set x = IsTrue (set x)

-- and one block more
abbrev pub with_block : (ℕ → Bool) → ℕ → ℕ → Bool
with_block set x y = set y || (y == x)

abbrev pub pointer_at : Shape → Lives → (ℕ → List ℕ) → ℕ → ℕ → ℕ
pointer_at S lives content p o = S.pointer (type_at lives p) (content p) o

-- covered: the nodes, and the leaves of directories, blocks of the file system. held: those of them that had their wait.
pub record InPlace (S : Shape) (fs : ℕ) (covered held : ℕ → Type 0) (lives : Lives) : Type 0 where
  pub own : (x : ℕ) → covered x → IsOwn fs lives x
  pub counted : (x : ℕ) → held x → covered x
  -- what points to a block in newest points to it, there, in each cut in which it is not empty
  pub reached : (k : Choice) (p o x : ℕ) → IsCut lives k → IsOwn fs lives p → covered x → pointer_at S lives (latest lives) p o ≡ x →
      (pointer_at S lives (seen lives k) p o ≡ x) ⊎ IsTrue (S.empty (seen lives k x))
  -- and in each cut that is full at it
  pub full : (k : Choice) (p o x : ℕ) → IsCut lives k → IsOwn fs lives p → held x → pointer_at S lives (latest lives) p o ≡ x → IsFullAt lives k x →
      pointer_at S lives (seen lives k) p o ≡ x

pub record IsWait (S : Shape) (act : Act) (old new : Lives) : Type 0 where
  pub behind : (p o : ℕ) → pointer_at S old (latest old) p o ≡ act.block → act.behind ≡ Some p
  pub same : latest new act.block ≡ latest old act.block

pub record KeepsPlaces (S : Shape) (fs : ℕ) (covered held covered' held' : ℕ → Type 0) (act : Act) (old new : Lives) : Type 0 where
  -- no pointer moves: one to a block that counts stood there, or the block is added; then it is empty in each cut, and had no wait
  pub moves : (o x : ℕ) → covered' x → pointer_at S new (latest new) act.block o ≡ x →
      (pointer_at S old (latest old) act.block o ≡ x) ⊎ ((held' x → ⊥) × ((k : Choice) → IsCut new k → IsTrue (S.empty (seen new k x))))
  -- what had an owner counts as before
  pub covers : (p o x : ℕ) → covered' x → pointer_at S old (latest old) p o ≡ x → covered x
  pub own : (x : ℕ) → covered' x → IsOwn fs new x
  pub counted : (x : ℕ) → held' x → covered' x
  -- none is held anew but by a wait
  pub holds : (x : ℕ) → held' x → held x ⊎ ((x ≡ act.block) × IsWait S act old new)
  -- the edited block doesn't count, or is held, or this is its wait
  pub place : (covered' act.block → ⊥) ⊎ (held act.block ⊎ IsWait S act old new)

-- Paths, from their ends: the block that is reached by some offsets, the last one first
abbrev pub at : Shape → Lives → (ℕ → List ℕ) → ℕ → List ℕ → ℕ
at S lives content top [] = top
at S lives content top (o ∷ os) = pointer_at S lives content (at S lives content top os) o

-- all blocks of the path below the top count; then they are of the file system, if the top is
abbrev pub AllCovered : (ℕ → Type 0) → Shape → Lives → ℕ → List ℕ → Type 0
AllCovered covered S lives top [] = ⊤
AllCovered covered S lives top (o ∷ os) = covered (at S lives (latest lives) top (o ∷ os)) × AllCovered covered S lives top os
