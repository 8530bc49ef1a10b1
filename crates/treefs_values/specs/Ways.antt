-- The ways that lead from an inode to its nodes and leaves, and what holds of the blocks on them.
--     IsWay offsets l          offsets of pointers, the last one first, that lead to a node of height l; with l 0, to a leaf
--     block_numbered content top n   the block of inode n, the root block for 0; 0 where there is none
--     IsTyped                  each inode and each node that is there has its type, and each leaf of an inode that of data
--     ArePointersApart                  no two pointers lead to one block, and none to the root block
--     SamePointers            other bytes with the same pointers
use Rattle.std.specs.Prelude.{◌≡◌, ◌≢◌, ◌⊎◌, ℕ, suc, ◌<◌, ◌≤◌, ◌==◌, List, [], ◌∷◌, IsTrue, if◌then◌else◌}
use Rattle.treefs_format.specs.Paths.{leaf_count, leaf_offset, node_offset, tree_offset}
use Rattle.treefs_model.specs.Reading.{block_at, inode_block, leaf_block, pointed}
use Rattle.treefs_model.specs.Trees.{has_pointer}

-- from an inode: to one of its 16 leaves, or to the tree of a height
abbrev pub IsFirst : ℕ → ℕ → Type 0
IsFirst o l = ((i : ℕ) × (i < 16) × (o ≡ leaf_offset i) × (l ≡ 0)) ⊎ ((1 ≤ l) × (l ≤ 4) × (o ≡ tree_offset l))

-- from a node: to a child
abbrev pub IsWay : List ℕ → ℕ → Type 0
IsWay [] l = ⊥
IsWay (o ∷ []) l = IsFirst o l
IsWay (o ∷ p ∷ offsets) l = (j : ℕ) × (j < 127) × (o ≡ node_offset j) × IsWay (p ∷ offsets) (suc l)

abbrev pub block_numbered : (ℕ → List ℕ) → ℕ → ℕ → ℕ
block_numbered content top n = if n == 0 then top else inode_block content top n

pub record IsTyped (node inode : ℕ) (type : ℕ → ℕ) (content : ℕ → List ℕ) (top : ℕ) : Type 0 where
  pub inodes : (n : ℕ) → block_numbered content top n ≢ 0 → type (block_numbered content top n) ≡ inode
  pub nodes : (n l : ℕ) (offsets : List ℕ) → IsWay offsets (suc l) → block_at content (block_numbered content top n) offsets ≢ 0 →
      type (block_at content (block_numbered content top n) offsets) ≡ node
  pub leaves : (n i : ℕ) → n ≢ 0 → i < leaf_count → leaf_block content (block_numbered content top n) i ≢ 0 →
      type (leaf_block content (block_numbered content top n) i) ≡ 2

pub record ArePointersApart (node inode : ℕ) (type : ℕ → ℕ) (content : ℕ → List ℕ) (top : ℕ) : Type 0 where
  pub once : (p q o o' : ℕ) → IsTrue (has_pointer node inode (type p) o) → IsTrue (has_pointer node inode (type q) o') → pointed content p o ≢ 0 →
      pointed content p o ≡ pointed content q o' → (p ≡ q) × (o ≡ o')
  pub root : (p o : ℕ) → IsTrue (has_pointer node inode (type p) o) → pointed content p o ≡ top → ⊥

abbrev pub SamePointers : ℕ → ℕ → (ℕ → ℕ) → (ℕ → List ℕ) → (ℕ → List ℕ) → Type 0
SamePointers node inode type old new = (p o : ℕ) → IsTrue (has_pointer node inode (type p) o) → pointed new p o ≡ pointed old p o
