-- An inode that has no number, on an open volume.
use Rattle.std.proofs.Common.{◌≡◌, ◌≢◌, ℕ, List, refl, sym, ◌∙◌, ap, inl, inr, subst}
use Rattle.xn_model.specs.Types.{Types}
use Rattle.xn_model.specs.Lives.{StoreState}
use Rattle.treefs_format.specs.Paths.{steps}
use Rattle.treefs_model.specs.Reading.{leaf_block}
use Rattle.treefs_lookup.specs.Readable.{readable}
use Rattle.treefs_edits.specs.declared.tree.Tree.{Tree}
use Rattle.treefs.specs.declared.volume.Volume.{Volume}
use Rattle.treefs_values.specs.Kinds.{kinds}
use Rattle.treefs_values.specs.Volumes.{IsVolume}
use Rattle.treefs_values.specs.Ways.{SamePointers, block_numbered}
use Rattle.treefs_laws.specs.Open.{IsOpen}
use Rattle.treefs_laws.specs.Unnamed.{IsReadAlike, IsUnnamed, KeepsUnnamed}
use Rattle.treefs_laws.proofs.AsideTree.{IsAside, placed_way, steady_aside}
use Rattle.treefs_laws.proofs.ReadBlocks.{IsIn, IsRead, unread}
use Rattle.treefs_laws.proofs.WaysApart.{steps_way}

abbrev pub IsAsideIn : StoreState → Tree → ℕ → Type 0
IsAsideIn state tree c = IsAside tree.node_type tree.inode_type tree.top c (kinds state tree.fs.number) (readable state tree.fs.number)

pub unnamed_aside : (T : Types) (state : StoreState) (volume : Volume) (c : ℕ) → IsOpen T state volume → IsUnnamed state volume c →
    IsAsideIn state volume.tree c
unnamed_aside T state volume c is_open unnamed = record {
  volume = is_open.kept.bytes;
  there = unnamed.there;
  no_root = λ z. unnamed.no_root (sym z);
  is_block = record { typed = unnamed.typed; nodes = unnamed.nodes };
  leaves = unnamed.leaves;
  unled = unnamed.unled;
}

pub aside_unnamed : (state : StoreState) (volume : Volume) (c : ℕ) → IsAsideIn state volume.tree c → IsUnnamed state volume c
aside_unnamed state volume c aside = record {
  there = aside.there;
  typed = aside.is_block.typed;
  nodes = aside.is_block.nodes;
  leaves = aside.leaves;
  no_root = λ z. aside.no_root (sym z);
  unled = aside.unled;
}

abbrev pub StaysAside : Tree → StoreState → StoreState → Type 0
StaysAside tree old new = (c : ℕ) → IsAsideIn old tree c → IsAsideIn new tree c

-- and it is read alike
abbrev pub KeepsAside : Tree → StoreState → StoreState → Type 0
KeepsAside tree old new = (c : ℕ) → IsAsideIn old tree c →
    IsAsideIn new tree c × IsReadAlike (readable old tree.fs.number) (readable new tree.fs.number) c

pub alike_same : (content : ℕ → List ℕ) (c : ℕ) → IsReadAlike content content c
alike_same content c = record { own = refl; leaves = λ i. refl; bytes = λ i some. refl }

pub alike_then : (old middle new : ℕ → List ℕ) (c : ℕ) → IsReadAlike old middle c → IsReadAlike middle new c → IsReadAlike old new c
alike_then old middle new c first second = record {
  own = second.own ∙ first.own;
  leaves = λ i. second.leaves i ∙ first.leaves i;
  bytes = λ i some.
      ap new (sym (first.leaves i)) ∙ (second.bytes i (λ z. some (sym (first.leaves i) ∙ z)) ∙ (ap middle (first.leaves i) ∙ first.bytes i some));
}

pub unnamed_kept : (T : Types) (old new : StoreState) (volume volume' : Volume) → IsOpen T old volume → volume'.tree ≡ volume.tree →
    KeepsAside volume.tree old new → KeepsUnnamed old new volume volume'
unnamed_kept T old new volume volume' is_open same keeps c unnamed =
    let kept = keeps c (unnamed_aside T old volume c is_open unnamed) in (
      aside_unnamed new volume' c (subst (λ tree. IsAsideIn new tree c) (sym same) kept.0),
      subst (λ (tree : Tree). IsReadAlike (readable old volume.tree.fs.number) (readable new tree.fs.number) c) (sym same) kept.1,
    )

pub unnamed_then : (old middle new : StoreState) (v w x : Volume) → KeepsUnnamed old middle v w → KeepsUnnamed middle new w x → KeepsUnnamed old new v x
unnamed_then old middle new v w x first second block unnamed =
    let one = first block unnamed in
    let two = second block one.0 in
    (two.0, alike_then (readable old v.tree.fs.number) (readable middle w.tree.fs.number) (readable new x.tree.fs.number) block one.1 two.1)

-- where no type changes, and no pointer
module _ (tree : Tree) (old new : StoreState) (types : kinds new tree.fs.number ≡ kinds old tree.fs.number) where
  abbrev As : ℕ → (ℕ → ℕ) → (ℕ → List ℕ) → Type 0
  As c type content = IsAside tree.node_type tree.inode_type tree.top c type content

  -- others: a block that is none of an inode with a number stays
  module _ (keeps : SamePointers tree.node_type tree.inode_type (kinds old tree.fs.number) (readable old tree.fs.number) (readable new tree.fs.number))
      (others : (b : ℕ) → ((m : ℕ) → block_numbered (readable old tree.fs.number) tree.top m ≢ b) →
      readable new tree.fs.number b ≡ readable old tree.fs.number b)
      (volume : IsVolume tree.node_type tree.inode_type (kinds new tree.fs.number) (readable new tree.fs.number) tree.top) where
    stays : StaysAside tree old new
    stays c a = subst (λ type. As c type (readable new tree.fs.number)) (sym types)
        (steady_aside tree.node_type tree.inode_type tree.top c (kinds old tree.fs.number) (readable old tree.fs.number) (readable new tree.fs.number) a keeps
        (subst (λ type. IsVolume tree.node_type tree.inode_type type (readable new tree.fs.number) tree.top) types volume))

    alike : (c : ℕ) → IsAsideIn old tree c → IsReadAlike (readable old tree.fs.number) (readable new tree.fs.number) c
    alike c a = record {
      own = others c (λ m same. not_read c (inl refl) (a.there, inl (m, sym same)));
      leaves = λ i. placed_way tree.node_type tree.inode_type tree.top c (kinds old tree.fs.number) (readable old tree.fs.number) (readable new tree.fs.number) a
          keeps 0 (steps i) (steps_way i);
      bytes = λ i some. others (leaf_block (readable old tree.fs.number) c i)
          (λ m same. not_read (leaf_block (readable old tree.fs.number) c i) (inr (0, steps i, steps_way i, refl)) (some, inl (m, sym same)));
    }
      where
        not_read : (b : ℕ) → IsIn (readable old tree.fs.number) c b → IsRead (readable old tree.fs.number) tree.top b → ⊥
        not_read b is_in read = unread tree.node_type tree.inode_type tree.top (kinds old tree.fs.number) (readable old tree.fs.number) a.volume c a.there
            a.no_root a.is_block a.unled b is_in read

    pub steady_keeps : KeepsAside tree old new
    steady_keeps c a = (stays c a, alike c a)

  pub same_keeps : readable new tree.fs.number ≡ readable old tree.fs.number → KeepsAside tree old new
  same_keeps reads c a = (
    subst (λ type. As c type (readable new tree.fs.number)) (sym types) (subst (λ content. As c (kinds old tree.fs.number) content) (sym reads) a),
    subst (λ m. IsReadAlike (readable old tree.fs.number) m c) (sym reads) (alike_same (readable old tree.fs.number) c),
  )

pub read_keeps : (T : Types) (old new : StoreState) (volume : Volume) → IsOpen T old volume → kinds new volume.tree.fs.number ≡ kinds old volume.tree.fs.number →
    readable new volume.tree.fs.number ≡ readable old volume.tree.fs.number → KeepsUnnamed old new volume volume
read_keeps T old new volume is_open types reads = unnamed_kept T old new volume volume is_open refl (same_keeps volume.tree old new types reads)
