-- An edit makes pointers of one block 0 and drops the blocks to which they led, in a state of the store.
use Rattle.std.proofs.Common.{◌≡◌, ◌≢◌, ◌⊎◌, ℕ, true, false, List, [], ◌∷◌, Option, None, Ok, sym, ◌∙◌, ap, inl, inr, subst, if◌then◌else◌}
use Rattle.std.specs.Prelude.{All}
use Rattle.xn_model.specs.Types.{Types}
use Rattle.xn_model.specs.Lists.{has_number}
use Rattle.xn_model.specs.Lives.{StoreState}
use Rattle.treefs_format.specs.Fields.{fields_of}
use Rattle.treefs_model.specs.Acts.{Act, Ran}
use Rattle.treefs_model.specs.Reading.{block_at, bucket_of, byte_of, files_of, key_in, leaf_block}
use Rattle.treefs_lookup.specs.Readable.{readable}
use Rattle.treefs_edits.specs.Written.{written}
use Rattle.treefs_edits.specs.declared.tree.Tree.{Tree}
use Rattle.treefs_values.specs.Dropped.{AreDropped, AreOverPointers, IsHolderWay, IsLedTo, clear_act, with_blocks}
use Rattle.treefs_values.specs.Kinds.{kinds}
use Rattle.treefs_values.specs.Volumes.{IsVolume, IsWholeBlock}
use Rattle.treefs_values.specs.Ways.{block_numbered}
use Rattle.treefs_values.proofs.ForCallers.{IsAt, IsDrop, cleared_whole, drop_is, pointers_cleared}
use Rattle.treefs_laws.proofs.PointersGone.{IsGone, IsOf, IsRoot, IsUnled, buckets_left, bytes_left, fields_stay, key_stays, files_end, files_stay}
use Rattle.treefs_laws.proofs.PointersGone.{number_stays, others_stay, still_inode, still_leaf}
use Rattle.treefs_laws.proofs.PointersGone.{still_unled, volume_stays}
use Rattle.treefs_laws.proofs.WaysApart.{IsInodeBlock}

module _ (T : Types) (tree : Tree) (old new : StoreState) (here : IsAt T tree.fs.number tree.node_type tree.inode_type tree.top old)
    (r : ℕ) (r_is : IsInodeBlock tree.node_type tree.inode_type (kinds old tree.fs.number) (readable old tree.fs.number) r)
    (q : List ℕ) (way : IsHolderWay q) (there : block_at (readable old tree.fs.number) r q ≢ 0) (places : List (ℕ × ℕ)) (blocks : List ℕ) (behind : Option ℕ)
    (over : All (AreOverPointers tree.node_type tree.inode_type (kinds old tree.fs.number (block_at (readable old tree.fs.number) r q))) places)
    (led : All (IsLedTo (readable old tree.fs.number) (block_at (readable old tree.fs.number) r q) places) blocks)
    (act : Act) (no_adds : act.edit.adds ≡ []) (at_block : act.block ≡ block_at (readable old tree.fs.number) r q) (drops : act.edit.drops ≡ blocks)
    (writes : written act (readable old tree.fs.number) ≡ written (clear_act (block_at (readable old tree.fs.number) r q) places blocks behind)
    (readable old tree.fs.number))
    (ran : Ran T tree.fs.number (act ∷ []) old new (Ok tt)) where
  abbrev fs : ℕ
  fs = tree.fs.number

  abbrev top : ℕ
  top = tree.top

  abbrev node : ℕ
  node = tree.node_type

  abbrev inode : ℕ
  inode = tree.inode_type

  abbrev content : ℕ → List ℕ
  content = readable old fs

  abbrev type : ℕ → ℕ
  type = kinds old fs

  abbrev holder : ℕ
  holder = block_at content r q

  abbrev later : ℕ → List ℕ
  later = with_blocks (written (clear_act holder places blocks behind) content) blocks []

  abbrev type' : ℕ → ℕ
  type' = with_blocks type blocks 0

  v : IsVolume node inode type content top
  v = here.volume

  drop : IsDrop T fs act old new
  drop = drop_is T fs act old new here.store no_adds ran

  pub clears : readable new fs ≡ later
  clears = drop.reads ∙ (λ j. with_blocks (writes j) (drops j) [])

  pub unread : kinds new fs ≡ type'
  unread = drop.types ∙ ap (λ xs. with_blocks type xs 0) drops

  apart : has_number blocks holder ≡ false
  apart = (λ j. has_number (sym drops j) (sym at_block j)) ∙ drop.apart

  pub holder_typed : IsHolderWay q → (type holder ≡ inode) ⊎ (type holder ≡ node)
  holder_typed (inl none) =
      let is : holder ≡ r = ap (block_at content r) none in inl (ap type is ∙ r_is.typed)
  holder_typed (inr w) = inr (r_is.nodes w.0 q w.1 there)

  whole : IsWholeBlock (content holder)
  whole = v.blocks holder (λ z. elim (holder_typed way) [ inl is ↦ v.some_types.1 (sym is ∙ z) | inr is ↦ v.some_types.0 (sym is ∙ z) ])

  pub are_cleared : AreDropped node inode type type' content later holder places
  are_cleared = pointers_cleared node inode type content holder places blocks behind v.types.0 there whole over led apart

  pub still_whole : IsWholeBlock (later holder)
  still_whole = cleared_whole node inode type content holder places blocks behind v.types.0 there whole over led apart

  pub at_then : IsVolume node inode type' later top → IsAt T fs node inode top new
  at_then volume = record {
    store = drop.store;
    root = drop.root ∙ here.root;
    volume = subst (λ t. IsVolume node inode t (readable new fs) top) (sym unread) (subst (λ m. IsVolume node inode type' m top) (sym clears) volume);
  }

  -- whatever stands behind them
  module _ (r_some : r ≢ 0) (stands : IsRoot tree.node_type tree.inode_type (kinds old tree.fs.number) (readable old tree.fs.number) tree.top r)
      (of : (b : ℕ) → IsGone (readable old tree.fs.number) (block_at (readable old tree.fs.number) r q) places b →
      IsOf (readable old tree.fs.number) tree.top r b) where
    pub at_still : IsAt T tree.fs.number tree.node_type tree.inode_type tree.top new
    at_still = at_then (volume_stays node inode top type type' content later v r r_some r_is stands q way there places are_cleared of still_whole)

    pub still_files : (m : ℕ) → block_numbered content top m ≢ r → m ≢ 0 → (IsGone content holder places (block_numbered content top m) → ⊥) →
        files_of (readable new fs) top m ≡ files_of content top m
    still_files m ne some not_gone =
        ap (λ x. files_of x top m) clears ∙ files_stay node inode top type type' content later v r r_some r_is stands q way there places are_cleared of m
        ne some not_gone

    pub still_key : key_in (readable new fs) top ≡ key_in content top
    still_key =
        ap (λ x. key_in x top) clears ∙ key_stays node inode top type type' content later v r r_some r_is stands q way there places are_cleared of

    pub no_file_then : (m : ℕ) → m ≢ 0 → block_numbered content top m ≢ 0 → has_number blocks (block_numbered content top m) ≡ true →
        files_of (readable new fs) top m ≡ None
    no_file_then m some m_there dropped =
        ap (λ x. files_of x top m) clears
        ∙ files_end node inode top type type' content later v r r_some r_is stands q way there places are_cleared of m some m_there
        (ap (λ t. if t then 0 else type (block_numbered content top m)) dropped)

    -- in the tree of an inode
    module _ (no_table : r ≢ tree.top) where
      pub still_numbered : (m : ℕ) → block_numbered (readable new fs) top m ≡ block_numbered content top m
      still_numbered m = ap (λ x. block_numbered x top m) clears
          ∙ number_stays node inode top type type' content later v r r_some r_is stands q way there places are_cleared of no_table m

      pub still_fields : fields_of (readable new fs r) ≡ fields_of (content r)
      still_fields = ap (λ x. fields_of (x r)) clears
          ∙ fields_stay node inode top type type' content later v r r_some r_is stands q way there places are_cleared of no_table

      pub still_others : (m : ℕ) → block_numbered content top m ≢ r → files_of (readable new fs) top m ≡ files_of content top m
      still_others m ne = ap (λ x. files_of x top m) clears
          ∙ others_stay node inode top type type' content later v r r_some r_is stands q way there places are_cleared of no_table m ne

      pub still_buckets : (k : ℕ) → (bucket_of (readable new fs) r k ≡ bucket_of content r k) ⊎ (bucket_of (readable new fs) r k ≡ [])
      still_buckets k = elim (buckets_left node inode top type type' content later v r r_some r_is stands q way there places are_cleared of no_table k) [
        | inl same ↦ inl (ap (λ x. bucket_of x r k) clears ∙ same)
        | inr none ↦ inr (ap (λ x. bucket_of x r k) clears ∙ none)
      ]

      pub still_bytes : (p : ℕ) → (byte_of (readable new fs) r p ≡ byte_of content r p) ⊎ (byte_of (readable new fs) r p ≡ 0)
      still_bytes p = elim (bytes_left node inode top type type' content later v r r_some r_is stands q way there places are_cleared of no_table p) [
        | inl same ↦ inl (ap (λ x. byte_of x r p) clears ∙ same)
        | inr none ↦ inr (ap (λ x. byte_of x r p) clears ∙ none)
      ]

      pub still_inode_block : IsInodeBlock node inode (kinds new fs) (readable new fs) r
      still_inode_block = subst (λ t. IsInodeBlock node inode t (readable new fs) r) (sym unread) (subst (λ x. IsInodeBlock node inode type' x r) (sym clears)
          (still_inode node inode top type type' content later v r r_some r_is stands q way there places are_cleared of no_table))

      pub still_leaves : (i : ℕ) → leaf_block (readable new fs) r i ≢ 0 →
          (leaf_block (readable new fs) r i ≡ leaf_block content r i) × (kinds new fs (leaf_block content r i) ≡ type (leaf_block content r i))
      still_leaves i some =
          let same = ap (λ x. leaf_block x r i) clears in
          let s = still_leaf node inode top type type' content later v r r_some r_is stands q way there places are_cleared of no_table i
          (λ z. some (same ∙ z)) in
          (same ∙ s.0, ap (λ t. t (leaf_block content r i)) unread ∙ s.1)

      pub still_root : IsRoot node inode (kinds new fs) (readable new fs) top r
      still_root = by stands
        where
          by : IsRoot node inode type content top r → IsRoot node inode (kinds new fs) (readable new fs) top r
          by (inl (n, is)) = inl (n, is ∙ sym (still_numbered n))
          by (inr (not_top, unled)) = inr (
            not_top,
            subst (λ t. IsUnled node inode t (readable new fs) r) (sym unread) (subst (λ x. IsUnled node inode type' x r) (sym clears)
                (still_unled node inode top type type' content later v r r_some r_is stands q way there places are_cleared of r r_some unled)),
          )
