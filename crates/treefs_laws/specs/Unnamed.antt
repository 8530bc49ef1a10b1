-- An inode that has no number.
--     IsUnnamed        nothing points to its block; those on the ways from it have their types
--     IsReadAlike      the block of an inode, and its leaves, say what they said
--     KeepsUnnamed     one that had no number has none then, and is read alike
use Rattle.std.specs.Prelude.{◌≡◌, ◌≢◌, ℕ, suc, ◌<◌, List, IsTrue}
use Rattle.xn_model.specs.Lives.{StoreState}
use Rattle.treefs_format.specs.Paths.{leaf_count}
use Rattle.treefs_model.specs.Reading.{block_at, leaf_block, pointed}
use Rattle.treefs_model.specs.Trees.{has_pointer}
use Rattle.treefs_lookup.specs.Readable.{readable}
use Rattle.treefs.specs.declared.volume.Volume.{Volume}
use Rattle.treefs_values.specs.Kinds.{kinds}
use Rattle.treefs_values.specs.Ways.{IsWay}

pub record IsUnnamed (state : StoreState) (volume : Volume) (block : ℕ) : Type 0 where
  pub there : block ≢ 0
  pub typed : kinds state volume.tree.fs.number block ≡ volume.tree.inode_type
  pub nodes : (l : ℕ) (offsets : List ℕ) → IsWay offsets (suc l) → block_at (readable state volume.tree.fs.number) block offsets ≢ 0 →
      kinds state volume.tree.fs.number (block_at (readable state volume.tree.fs.number) block offsets) ≡ volume.tree.node_type
  pub leaves : (i : ℕ) → i < leaf_count → leaf_block (readable state volume.tree.fs.number) block i ≢ 0 →
      kinds state volume.tree.fs.number (leaf_block (readable state volume.tree.fs.number) block i) ≡ 2
  pub no_root : volume.tree.top ≢ block
  pub unled : (p o : ℕ) → IsTrue (has_pointer volume.tree.node_type volume.tree.inode_type (kinds state volume.tree.fs.number p) o) →
      pointed (readable state volume.tree.fs.number) p o ≢ block

pub record IsReadAlike (old new : ℕ → List ℕ) (block : ℕ) : Type 0 where
  pub own : new block ≡ old block
  pub leaves : (i : ℕ) → leaf_block new block i ≡ leaf_block old block i
  pub bytes : (i : ℕ) → leaf_block old block i ≢ 0 → new (leaf_block old block i) ≡ old (leaf_block old block i)

abbrev pub KeepsUnnamed : StoreState → StoreState → Volume → Volume → Type 0
KeepsUnnamed old new volume volume' = (block : ℕ) → IsUnnamed old volume block →
    IsUnnamed new volume' block × IsReadAlike (readable old volume.tree.fs.number) (readable new volume'.tree.fs.number) block
