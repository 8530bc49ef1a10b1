-- Pointers of one block come to lead nowhere: an inode that no number leads to has none still.
use Rattle.std.proofs.Common.{◌≡◌, ◌≢◌, ℕ, List, [], ◌∷◌, Option, Ok, sym, ◌∙◌, ap, subst}
use Rattle.std.specs.Prelude.{All}
use Rattle.xn_model.specs.Types.{Types}
use Rattle.xn_model.specs.Lives.{StoreState}
use Rattle.treefs_model.specs.Acts.{Act, Ran}
use Rattle.treefs_model.specs.Reading.{block_at, leaf_block}
use Rattle.treefs_lookup.specs.Readable.{readable}
use Rattle.treefs_edits.specs.Written.{written}
use Rattle.treefs_edits.specs.declared.tree.Tree.{Tree}
use Rattle.treefs_values.specs.Dropped.{AreDropped, AreOverPointers, IsHolderWay, IsLedTo, clear_act, with_blocks}
use Rattle.treefs_values.specs.Kinds.{kinds}
use Rattle.treefs_values.proofs.ForCallers.{IsAt}
use Rattle.treefs_laws.specs.Unnamed.{IsReadAlike}
use Rattle.treefs_laws.proofs.AsideTree.{IsAside}
use Rattle.treefs_laws.proofs.AsideVolume.{StaysAside}
use Rattle.treefs_laws.proofs.ClearedPointers.{are_cleared, clears, still_whole, unread}
use Rattle.treefs_laws.proofs.PointersGone.{IsGone, IsOf, IsRoot, still_unled, unled_alike, unled_inode, unled_leaf, volume_stays}
use Rattle.treefs_laws.proofs.WaysApart.{IsInodeBlock}

module _ (T : Types) (tree : Tree) (old new : StoreState) (here : IsAt T tree.fs.number tree.node_type tree.inode_type tree.top old)
    (r : ℕ) (r_is : IsInodeBlock tree.node_type tree.inode_type (kinds old tree.fs.number) (readable old tree.fs.number) r)
    (q : List ℕ) (way : IsHolderWay q) (there : block_at (readable old tree.fs.number) r q ≢ 0) (places : List (ℕ × ℕ)) (blocks : List ℕ) (behind : Option ℕ)
    (over : All (AreOverPointers tree.node_type tree.inode_type (kinds old tree.fs.number (block_at (readable old tree.fs.number) r q))) places)
    (led : All (IsLedTo (readable old tree.fs.number) (block_at (readable old tree.fs.number) r q) places) blocks)
    (act : Act) (no_adds : act.edit.adds ≡ []) (at_block : act.block ≡ block_at (readable old tree.fs.number) r q) (drops : act.edit.drops ≡ blocks)
    (writes : written act (readable old tree.fs.number) ≡ written (clear_act (block_at (readable old tree.fs.number) r q) places blocks behind)
    (readable old tree.fs.number))
    (ran : Ran T tree.fs.number (act ∷ []) old new (Ok tt)) (r_some : r ≢ 0)
    (stands : IsRoot tree.node_type tree.inode_type (kinds old tree.fs.number) (readable old tree.fs.number) tree.top r)
    (of : (b : ℕ) → IsGone (readable old tree.fs.number) (block_at (readable old tree.fs.number) r q) places b →
    IsOf (readable old tree.fs.number) tree.top r b) where
  abbrev fs : ℕ
  fs = tree.fs.number

  abbrev node : ℕ
  node = tree.node_type

  abbrev inode : ℕ
  inode = tree.inode_type

  abbrev content : ℕ → List ℕ
  content = readable old fs

  abbrev type : ℕ → ℕ
  type = kinds old fs

  abbrev later : ℕ → List ℕ
  later = with_blocks (written (clear_act (block_at content r q) places blocks behind) content) blocks []

  abbrev type' : ℕ → ℕ
  type' = with_blocks type blocks 0

  cleared : AreDropped node inode type type' content later (block_at content r q) places
  cleared = are_cleared T tree old new here r r_is q way there places blocks behind over led act no_adds at_block drops writes ran

  module _ (c : ℕ) (a : IsAside tree.node_type tree.inode_type tree.top c (kinds old tree.fs.number) (readable old tree.fs.number)) where
    leaf_left : (i : ℕ) → leaf_block later c i ≢ 0 →
        (leaf_block later c i ≡ leaf_block content c i) × (type' (leaf_block content c i) ≡ type (leaf_block content c i))
    leaf_left = unled_leaf node inode tree.top type type' content later here.volume r r_some r_is stands q way there places cleared of c a.is_block
        a.unled

    left_aside : IsAside node inode tree.top c type' later
    left_aside = record {
      volume = volume_stays node inode tree.top type type' content later here.volume r r_some r_is stands q way there places cleared of
          (still_whole T tree old new here r r_is q way there places blocks behind over led act no_adds at_block drops writes ran);
      there = a.there;
      no_root = a.no_root;
      is_block = unled_inode node inode tree.top type type' content later here.volume r r_some r_is stands q way there places cleared of c a.is_block
          a.unled;
      leaves = λ i few some. let l = leaf_left i some in ap type' l.0 ∙ (l.1 ∙ a.leaves i few (λ z. some (l.0 ∙ z)));
      unled = still_unled node inode tree.top type type' content later here.volume r r_some r_is stands q way there places cleared of c a.there a.unled;
    }

  pub cleared_alike : (c : ℕ) → IsAside tree.node_type tree.inode_type tree.top c (kinds old tree.fs.number) (readable old tree.fs.number) → c ≢ r →
      IsReadAlike (readable old tree.fs.number) (readable new tree.fs.number) c
  cleared_alike c a other =
      subst (λ m. IsReadAlike content m c)
      (sym (clears T tree old new here r r_is q way there places blocks behind over led act no_adds at_block drops writes ran))
      (unled_alike node inode tree.top type type' content later here.volume r r_some r_is stands q way there places cleared of c a.is_block a.unled
      a.no_root other)

  pub cleared_aside : StaysAside tree old new
  cleared_aside c a =
      subst (λ t. IsAside node inode tree.top c t (readable new fs))
      (sym (unread T tree old new here r r_is q way there places blocks behind over led act no_adds at_block drops writes ran))
      (subst (λ m. IsAside node inode tree.top c type' m)
      (sym (clears T tree old new here r r_is q way there places blocks behind over led act no_adds at_block drops writes ran)) (left_aside c a))
