-- What stands past the size of an inode that was begun goes: it says what it said.
use Rattle.std.proofs.Common.{◌≡◌, ◌≢◌, ℕ, suc, ◌+◌, ◌-◌, ◌<◌, ◌≤◌, false, List, [], ◌∷◌, length, replicate, Option, Some, Ok, refl, sym, ◌∙◌, ap, inl, inr, arith, subst, if◌then◌else◌}
use Rattle.std.specs.Prelude.{All, ◌==◌}
use Rattle.std.proofs.lemmas.List.{length-replicate}
use Rattle.std.proofs.lemmas.List.Elements.{All-cons, All-nil, All-replicate, All-weaker}
use Rattle.xn_model.specs.Lists.{has_number}
use Rattle.xn_model.specs.Root.{word_at}
use Rattle.xn_model.specs.Types.{Types}
use Rattle.xn_model.specs.Lives.{StoreState}
use Rattle.treefs_format.specs.Fields.{fields_of}
use Rattle.treefs_format.specs.Inodes.{kind_of}
use Rattle.treefs_format.specs.Leaves.{greatest_size}
use Rattle.treefs_format.specs.Paths.{leaf_count, steps}
use Rattle.treefs_format.specs.Templates.{IsTree}
use Rattle.treefs_model.specs.Acts.{Act, Ran, one_patch, patch_act}
use Rattle.treefs_model.specs.Files.{Inode, bytes_in}
use Rattle.treefs_model.specs.Reading.{block_at, files_of}
use Rattle.treefs_lookup.specs.Buckets.{bucket_block, bucket_start}
use Rattle.treefs_lookup.specs.Bytes.{part_left}
use Rattle.treefs_lookup.specs.Readable.{readable}
use Rattle.treefs_edits.specs.Written.{written}
use Rattle.treefs.specs.declared.volume.Volume.{Volume}
use Rattle.treefs_values.specs.Bytes.{bucket_at, place_in_bucket}
use Rattle.treefs_values.specs.Dropped.{AreDropped, AreOverPointers, IsCovered, IsHolderWay, IsLedTo, IsPast, clear_act, with_blocks}
use Rattle.treefs_values.specs.Kinds.{kinds}
use Rattle.treefs_values.specs.Values.{KeepsBlocks}
use Rattle.treefs_values.specs.Volumes.{IsVolume, IsWholeBlock}
use Rattle.treefs_values.specs.Ways.{block_numbered}
use Rattle.treefs_values.proofs.ForCallers.{acts_read, drop_is, dropped_files, dropped_numbered, pointers_cleared}
use Rattle.treefs_laws.specs.Begun.{IsBegun}
use Rattle.treefs_laws.specs.Open.{IsOpen}
use Rattle.treefs_laws.proofs.AsideBegun.{IsAsideAt, Stays}
use Rattle.treefs_laws.proofs.AsideVolume.{aside_unnamed}
use Rattle.treefs_laws.proofs.ClearedPointers.{clears, holder_typed}
use Rattle.treefs_laws.proofs.ForgottenBlocks.{stays_open}
use Rattle.treefs_laws.proofs.OwnSaid.{aside, begun_then, c_other, c_there, is_volume, k, number_is, one, own, own_file, own_said, own_size}
use Rattle.treefs_laws.proofs.OwnVolume.{low_way, other_same, own_root, own_type, own_way, type_other, written_alike}
use Rattle.treefs_laws.proofs.TrimBlanks.{put, put_files, put_numbered}
use Rattle.treefs_laws.proofs.WaysApart.{steps_way}

module _ (T : Types) (volume : Volume) (c : ℕ) (inode_now : Inode) (few : volume.tree.fs.number < 32)
    (is_tree : IsTree T volume.tree.node_type volume.tree.inode_type) (size : ℕ)
    (size_is : (bytes : List ℕ) → bytes_in inode_now.content ≡ Ok bytes → size ≡ length bytes) where
  abbrev fs : ℕ
  fs = volume.tree.fs.number

  abbrev top : ℕ
  top = volume.tree.top

  abbrev node : ℕ
  node = volume.tree.node_type

  abbrev inode : ℕ
  inode = volume.tree.inode_type

  -- in a state of the store
  abbrev pub At : StoreState → Type 0
  At s = IsOpen T s volume × IsBegun s volume c inode_now

  abbrev Beside : StoreState → StoreState → Type 0
  Beside = Stays T fs node inode top c few is_tree

  pub stands : (s : StoreState) → At s → IsAsideAt T fs node inode top c few is_tree s
  stands s at = record {
    here = record { store = at.0.kept.store; root = at.0.root; volume = at.0.kept.bytes };
    aside = aside T s volume at.0 c inode_now at.1;
  }

  module _ (old new : StoreState) (at : At old) where
    abbrev content : ℕ → List ℕ
    content = readable old fs

    abbrev own_m : ℕ → List ℕ
    own_m = own T old volume at.0 c inode_now at.1

    abbrev types : ℕ → ℕ
    types = own_type node inode top c (kinds old fs)

    abbrev v : IsVolume node inode types own_m own_root
    v = is_volume T old volume at.0 c inode_now at.1

    abbrev number : block_numbered own_m own_root 1 ≡ c
    number = number_is T old volume at.0 c inode_now at.1

    abbrev some_one : ◌≢◌ {A = ℕ} 1 0
    some_one = one T old volume at.0 c inode_now at.1

    other : (x : ℕ) → x ≢ own_root → own_m x ≡ content x
    other = other_same node inode top c (kinds old fs) content (aside T old volume at.0 c inode_now at.1) at.1.within

    own_sized : (fields_of (own_m c)).size ≡ size
    own_sized = own_size T old volume at.0 c inode_now at.1 ∙ sym (size_is at.1.bytes at.1.bytes_are)

    pub size_few : size ≤ greatest_size
    size_few = subst (λ s. s ≤ greatest_size) (sym (size_is at.1.bytes at.1.bytes_are)) at.1.few

    kind_there : kind_of (fields_of (own_m (block_numbered own_m own_root 1))).mode ≡ Some (k T old volume at.0 c inode_now at.1)
    kind_there = ap (λ x. kind_of (fields_of (own_m x)).mode) number ∙ (own_said T old volume at.0 c inode_now at.1).kind_is

    size_there : (fields_of (own_m (block_numbered own_m own_root 1))).size ≡ size
    size_there = ap (λ x. (fields_of (own_m x)).size) number ∙ own_sized

    -- once its own volume says the same
    next : Beside old new → (w : ℕ → List ℕ) → ((x : ℕ) → x ≢ own_root → w x ≡ readable new fs x) → block_numbered w own_root 1 ≡ c →
        files_of w own_root ≡ files_of own_m own_root → At new
    next stay w agrees numbered files =
        let opened = (stays_open T old new volume at.0 stay.0.here stay.1).0 in (
          opened,
          begun_then T old volume at.0 c inode_now at.1 new opened (aside_unnamed new volume c stay.0.aside) w agrees numbered inode_now
              (ap (λ f. f 1) files ∙ own_file T old volume at.0 c inode_now at.1) at.1.bytes at.1.bytes_are at.1.few,
        )

    -- Pointers become 0

    module _ (q : List ℕ) (way : IsHolderWay q) (there : block_at content c q ≢ 0) (places : List (ℕ × ℕ)) (blocks : List ℕ) (behind : Option ℕ)
        (over : All (AreOverPointers node inode (kinds old fs (block_at content c q))) places)
        (led : All (IsLedTo content (block_at content c q) places) blocks)
        (act : Act) (no_adds : act.edit.adds ≡ []) (at_block : act.block ≡ block_at content c q) (drops : act.edit.drops ≡ blocks)
        (writes : written act content ≡ written (clear_act (block_at content c q) places blocks behind) content)
        (ran : Ran T fs (act ∷ []) old new (Ok tt)) (past : (o : ℕ) → IsCovered places o → IsPast size (o ∷ q)) (stay : Beside old new) where
      abbrev h : ℕ
      h = block_at content c q

      way_own : (block_at own_m c q ≡ h) × (h ≢ own_root)
      way_own = by way
        where
          by : IsHolderWay q → (block_at own_m c q ≡ h) × (h ≢ own_root)
          by (inl none) = (
            ap (block_at own_m c) none ∙ sym (ap (block_at content c) none),
            λ e. c_other T old volume at.0 c inode_now at.1 (sym (ap (block_at content c) none) ∙ e),
          )
          by (inr (l, w)) = (
            own_way node inode top c (kinds old fs) content (aside T old volume at.0 c inode_now at.1) at.1.within (suc l) q w,
            low_way node inode top c (kinds old fs) content (aside T old volume at.0 c inode_now at.1) at.1.within (suc l) q w,
          )

      hold : h ≡ block_at own_m (block_numbered own_m own_root 1) q
      hold = sym (ap (λ x. block_at own_m x q) number ∙ way_own.0)

      type_same : types h ≡ kinds old fs h
      type_same = type_other node inode top c (kinds old fs) content (aside T old volume at.0 c inode_now at.1) at.1.within h way_own.1

      whole : IsWholeBlock (own_m h)
      whole = v.blocks h (λ z. elim (holder_typed T volume.tree old new (stands old at).here c (stands old at).aside.is_block q way there places blocks behind
          over led act no_adds at_block drops writes ran way) [
            | inl is ↦ v.some_types.1 (sym (type_same ∙ is) ∙ z)
            | inr is ↦ v.some_types.0 (sym (type_same ∙ is) ∙ z)
          ])

      led_own : All (IsLedTo own_m h places) blocks
      led_own = All-weaker (IsLedTo content h places) (IsLedTo own_m h places)
          (λ b is. (is.0, is.1, is.2, ap (λ m. if h == 0 then 0 else word_at m is.1) (other h way_own.1) ∙ is.3)) blocks led

      apart : has_number blocks h ≡ false
      apart = (λ j. has_number (sym drops j) (sym at_block j)) ∙ (drop_is T fs act old new at.0.kept.store no_adds ran).apart

      abbrev w : ℕ → List ℕ
      w = with_blocks (written (clear_act h places blocks behind) own_m) blocks []

      gone : AreDropped node inode types (with_blocks types blocks 0) own_m w h places
      gone = pointers_cleared node inode types own_m h places blocks behind v.types.0 there whole
          (subst (λ t. All (AreOverPointers node inode t) places) (sym type_same) over) led_own apart

      gone_there : AreDropped node inode types (with_blocks types blocks 0) own_m w (block_at own_m (block_numbered own_m own_root 1) q) places
      gone_there = subst (λ x. AreDropped node inode types (with_blocks types blocks 0) own_m w x places) hold gone

      there_own : block_at own_m (block_numbered own_m own_root 1) q ≢ 0
      there_own z = there (hold ∙ z)

      pub cleared_next : At new
      cleared_next = next stay w
          (λ x ne. (λ j. if has_number blocks x then [] else written_alike (clear_act h places blocks behind ∷ []) own_m content x (other x ne) j)
          ∙ ap (λ f. f x) (sym (clears T volume.tree old new (stands old at).here c (stands old at).aside.is_block q way there places blocks behind over led act
          no_adds at_block drops writes ran)))
          (dropped_numbered node inode own_root types (with_blocks types blocks 0) own_m w v 1 some_one q way there_own places gone_there 1 ∙ number)
          (dropped_files node inode own_root types (with_blocks types blocks 0) own_m w v 1 some_one q way there_own places gone_there
          (k T old volume at.0 c inode_now at.1) kind_there (own_said T old volume at.0 c inode_now at.1).no_directory
          (λ o cover. subst (λ s. IsPast s (o ∷ q)) (sym size_there) (past o cover)))

    -- Bytes become 0

    module _ (first count : ℕ) (some : 0 < count) (bucket_few : bucket_at first ≤ leaf_count) (fits : count ≤ part_left first) (block offset : ℕ)
        (block_is : bucket_block content c (bucket_at first) ≡ block) (there : block ≢ 0)
        (offset_is : bucket_start (bucket_at first) + place_in_bucket first ≡ offset) (past : size ≤ first) (behind : Option ℕ)
        (ran : Ran T fs (patch_act block (one_patch offset (replicate count 0)) behind ∷ []) old new (Ok tt)) (stay : Beside old new) where
      abbrev zeros : List ℕ
      zeros = replicate count 0

      abbrev act : Act
      act = patch_act block (one_patch offset zeros) behind

      long : length zeros ≡ count
      long = length-replicate {A = ℕ} count 0

      range : All (λ b. b < 256) zeros
      range = All-replicate (λ b. b < 256) count 0 (omega arith)

      zeros_some : 0 < length zeros
      zeros_some = let l = long in omega arith

      zeros_fit : length zeros ≤ part_left first
      zeros_fit = let l = long in omega arith

      abbrev c1 : ℕ
      c1 = block_numbered own_m own_root 1

      c1_there : c1 ≢ 0
      c1_there z = c_there T old volume at.0 c inode_now at.1 (sym number ∙ z)

      block_path : bucket_block own_m c1 (bucket_at first) ≡ block
      block_path =
          ap (λ x. bucket_block own_m x (bucket_at first)) number
          ∙ ((λ j. if bucket_at first == 0 then c else own_way node inode top c (kinds old fs) content (aside T old volume at.0 c inode_now at.1) at.1.within 0
          (steps (bucket_at first - 1)) (steps_way (bucket_at first - 1)) j) ∙ block_is)

      bucket_there : bucket_block own_m c1 (bucket_at first) ≢ 0
      bucket_there z = there (sym block_path ∙ z)

      past_there : (fields_of (own_m c1)).size ≤ first
      past_there = subst (λ s. s ≤ first) (sym size_there) past

      small_there : (fields_of (own_m c1)).size ≤ greatest_size
      small_there = subst (λ s. s ≤ greatest_size) (sym size_there) size_few

      abbrev blanked : ℕ → List ℕ
      blanked = written act own_m

      is_put : put node inode own_root types own_m v 1 some_one c1_there (k T old volume at.0 c inode_now at.1) kind_there
          (own_said T old volume at.0 c inode_now at.1).no_directory first zeros range zeros_some bucket_few zeros_fit bucket_there past_there small_there behind
          ≡ blanked
      is_put = (λ j. written (patch_act (block_path j) (one_patch (offset_is j) zeros) behind) own_m)

      pub blank_next : At new
      blank_next = next stay blanked
          (λ x ne. written_alike (act ∷ []) own_m content x (other x ne)
          ∙ ap (λ f. f x) (sym (acts_read T fs (act ∷ []) old new at.0.kept.store (All-cons KeepsBlocks act [] refl (All-nil KeepsBlocks)) ran).1))
          (ap (λ m. block_numbered m own_root 1) (sym is_put)
          ∙ (put_numbered node inode own_root types own_m v 1 some_one c1_there (k T old volume at.0 c inode_now at.1) kind_there
          (own_said T old volume at.0 c inode_now at.1).no_directory first zeros range zeros_some bucket_few zeros_fit bucket_there past_there small_there behind
          ∙ number))
          (ap (λ m. files_of m own_root) (sym is_put)
          ∙ put_files node inode own_root types own_m v 1 some_one c1_there (k T old volume at.0 c inode_now at.1) kind_there
          (own_said T old volume at.0 c inode_now at.1).no_directory first zeros range zeros_some bucket_few zeros_fit bucket_there past_there small_there behind)

  -- nothing that is read changes
  pub read_same : (old new : StoreState) → At old → Beside old new → readable new fs ≡ readable old fs → At new
  read_same old new at stay reads =
      next old new at stay (own T old volume at.0 c inode_now at.1) (λ x ne. other old new at x ne ∙ ap (λ f. f x) (sym reads)) (number old new at) refl
