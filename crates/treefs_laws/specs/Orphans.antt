-- Inodes without links that are freed.
--     IsOrphan            an inode without links, of one of some numbers: of those of which Among holds
--     AreCleared          as many bytes, of which each is as before, or 0
--     AreFewer            each name leads where it led, or nowhere
--     IsLeftOf            what is left of a content, parts of which are gone
--     IsReaped            the orphans of some numbers may be gone, or parts of their content; all other inodes are as before
--     without_orphans     the files without the orphans of some numbers
--     WaitLess            of the numbers that wait to be freed none is new, and one that waits no more leads to no inode
use Rattle.std.specs.Prelude.{◌≡◌, ◌≢◌, ◌⊎◌, ℕ, Bool, Contains, false, List, [], ◌∷◌, length, slice_index, Option, None, Some, if◌then◌else◌}
use Rattle.treefs_model.specs.Changes.{reaped}
use Rattle.treefs_model.specs.Files.{Content, Directory, File, Files, Inode, Names, SymbolicLink, is_orphan}

pub record IsOrphan (Among : ℕ → Type 0) (files : Files) (n : ℕ) : Type 0 where
  pub among : Among n
  pub inode : Inode
  pub there : files n ≡ Some inode
  pub unlinked : inode.links ≡ 0

abbrev pub AreCleared : List ℕ → List ℕ → Type 0
AreCleared bytes left = (length left ≡ length bytes) × ((i : ℕ) → (slice_index left i ≡ slice_index bytes i) ⊎ (slice_index left i ≡ 0))

abbrev pub AreFewer : Names → Names → Type 0
AreFewer names left = (name : List ℕ) → (left name ≡ names name) ⊎ (left name ≡ None)

abbrev pub IsLeftOf : Content → Content → Type 0
IsLeftOf (File bytes) (File left) = AreCleared bytes left
IsLeftOf (SymbolicLink bytes) (SymbolicLink left) = AreCleared bytes left
IsLeftOf (Directory parent names) (Directory directory left) = (directory ≡ parent) × AreFewer names left
IsLeftOf _ _ = ⊥

pub record IsReaped (Among : ℕ → Type 0) (old new : Files) : Type 0 where
  pub others : (n : ℕ) → (IsOrphan Among old n → ⊥) → new n ≡ old n
  -- it has no links still, and says what it said, but for parts of its content
  pub left : (n : ℕ) (inode : Inode) → IsOrphan Among old n → old n ≡ Some inode → new n ≢ None →
      (content : Content) × IsLeftOf inode.content content × (new n ≡ Some (record inode { content = content }))

-- one after another
abbrev pub orphan_in : Option Inode → Bool
orphan_in None = false
orphan_in (Some inode) = is_orphan inode

abbrev pub without_orphans : List ℕ → Files → Files
without_orphans [] files = files
without_orphans (n ∷ numbers) files = without_orphans numbers (if orphan_in (files n) then reaped files n else files)

abbrev pub WaitLess : List ℕ → List ℕ → Files → Type 0
WaitLess waiting left files = (n : ℕ) → (Contains left n → Contains waiting n) × (Contains waiting n → Contains left n ⊎ (files n ≡ None))
