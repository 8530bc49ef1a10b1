-- An inode that gets its number.
--     IsTreeBelow       the blocks on the ways from a block have their types
--     IsFreeInode       an inode of no number, with its tree
--     new_content       what a new inode of a kind says that begins with some bytes
--     IsEmptyBlock      a node without pointers, or a leaf of zeros
--     IsPointerSet      one pointer, that led nowhere, leads to a block, and all else that is read of inodes and nodes is as before
use Rattle.std.specs.Prelude.{◌≡◌, ◌≢◌, ◌⊎◌, ℕ, suc, ◌<◌, List, IsTrue, None, Some}
use Rattle.xn_model.specs.BareDisks.{zeros}
use Rattle.xn_model.specs.Root.{word_at}
use Rattle.treefs_format.specs.Fields.{fields_of}
use Rattle.treefs_format.specs.Inodes.{content_of, kind_of}
use Rattle.treefs_format.specs.Paths.{leaf_count}
use Rattle.treefs_format.specs.declared.kind.Kind.TheVariants as kind
use Rattle.treefs_format.specs.declared.kind.Kind.{Kind}
use Rattle.treefs_model.specs.Files.{Content, Directory, File, SymbolicLink}
use Rattle.treefs_model.specs.Reading.{block_at, leaf_block, pointed}
use Rattle.treefs_model.specs.Trees.{has_pointer}
use Rattle.treefs_values.specs.Parts.{IsChangedAt}
use Rattle.treefs_values.specs.Volumes.{IsDirectory}
use Rattle.treefs_values.specs.Ways.{IsWay}

pub record IsTreeBelow (node : ℕ) (type : ℕ → ℕ) (content : ℕ → List ℕ) (block : ℕ) : Type 0 where
  pub nodes : (l : ℕ) (offsets : List ℕ) → IsWay offsets (suc l) → block_at content block offsets ≢ 0 → type (block_at content block offsets) ≡ node
  pub leaves : (i : ℕ) → i < leaf_count → leaf_block content block i ≢ 0 → type (leaf_block content block i) ≡ 2

pub record IsFreeInode (node inode : ℕ) (type : ℕ → ℕ) (content : ℕ → List ℕ) (key : List ℕ) (block : ℕ) : Type 0 where
  pub there : block ≢ 0
  pub typed : type block ≡ inode
  pub tree : IsTreeBelow node type content block
  pub directory : kind_of (fields_of (content block)).mode ≡ Some kind.Directory → IsDirectory content key block

-- parent: the directory in which a directory stands
abbrev pub new_content : Kind → ℕ → List ℕ → Content
new_content kind.Directory parent head = Directory parent (λ name. None)
new_content kind.File parent head = File head
new_content kind.SymbolicLink parent head = SymbolicLink head

pub record IsPointerSet (node inode : ℕ) (type : ℕ → ℕ) (old new : ℕ → List ℕ) (holder offset block : ℕ) : Type 0 where
  pub changed : IsChangedAt holder old new
  pub was : pointed old holder offset ≡ 0
  pub now : pointed new holder offset ≡ block
  pub others : (p o : ℕ) → IsTrue (has_pointer node inode (type p) o) → (p ≢ holder) ⊎ (o ≢ offset) → pointed new p o ≡ pointed old p o
  -- of an inode the fields and the content, too
  pub fields : type holder ≡ inode → fields_of (new holder) ≡ fields_of (old holder)
  pub contents : type holder ≡ inode → content_of (new holder) ≡ content_of (old holder)

-- attached at the end of a way from inode n that leads to height l
pub record IsEmptyBlock (node inode : ℕ) (type : ℕ → ℕ) (content : ℕ → List ℕ) (n l block : ℕ) : Type 0 where
  pub there : block ≢ 0
  pub node_above : (k : ℕ) → l ≡ suc k → type block ≡ node
  -- of an inode, and not of the table
  pub leaf_of : l ≡ 0 → n ≢ 0
  pub leaf_type : l ≡ 0 → type block ≡ 2
  pub leaf_bytes : l ≡ 0 → content block ≡ zeros 512
  pub bare : (o : ℕ) → IsTrue (has_pointer node inode (type block) o) → word_at (content block) o ≡ 0
