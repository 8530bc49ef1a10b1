-- Bytes past the size of a file that become 0.
use mathlib.Core.Path.{fun_ext}
use Rattle.std.proofs.Common.{◌≡◌, ◌≢◌, ℕ, zero, suc, ◌+◌, ◌-◌, ◌/◌, ◌%◌, ◌<◌, ◌≤◌, ◌⊎◌, Bool, true, false, ◌&&◌, not, List, [], ◌∷◌, length, replicate, Option, None, Some, Result, Ok, Err, refl, sym, ◌∙◌, ap, inl, inr, subst, arith, if◌then◌else◌}
use Rattle.std.specs.Prelude.{All, map, nat_lt, option_map, slice_index, ◌==◌}
use Rattle.std.specs.List.{range_with_len}
use Rattle.std.proofs.lemmas.Bool.{and_from, and_parts, cases_eq, cases_lt, eq-eqb, eqb-true, le-ltb, lt-leb, ltb-true, lt-ltb, ne_eqb, true≢false}
use Rattle.std.proofs.lemmas.List.{length-replicate}
use Rattle.std.proofs.lemmas.List.Elements.{All-cons, All-nil, All-replicate}
use Rattle.std.proofs.lemmas.List.FromFn.{get_or-map-range_with_len, length-map-range_with_len}
use Rattle.xn_model.specs.Types.{Types}
use Rattle.xn_model.specs.Lists.{blank}
use Rattle.xn_model.specs.Lives.{StoreState}
use Rattle.xn_model.specs.Rules.{IsConsistent}
use Rattle.treefs_format.specs.Fields.{fields_of}
use Rattle.treefs_format.specs.Inodes.{kind_of}
use Rattle.treefs_format.specs.Leaves.{greatest_size}
use Rattle.treefs_format.specs.Paths.{leaf_count}
use Rattle.treefs_format.specs.declared.fields.Fields.{Fields}
use Rattle.treefs_format.specs.declared.kind.Kind.{Kind}
use Rattle.treefs_format.specs.declared.kind.Kind.TheVariants as kind
use Rattle.treefs_model.specs.Acts.{Act, Ran, one_patch, patch_act}
use Rattle.treefs_model.specs.Changes.{with_bytes}
use Rattle.treefs_model.specs.Files.{File, SymbolicLink, changed_at, changed_in}
use Rattle.treefs_model.specs.Reading.{byte_of, content_at, files_of, inode_with, key_in, leaf_block, leaf_byte}
use Rattle.treefs_model.specs.declared.fault.Fault.{Fault}
use Rattle.treefs_model.specs.declared.fault.Fault.TheVariants.{Full}
use Rattle.treefs_lookup.specs.Buckets.{bucket_block, bucket_start}
use Rattle.treefs_lookup.specs.Bytes.{file_end, part_left}
use Rattle.treefs_lookup.specs.Readable.{readable}
use Rattle.treefs_lookup.specs.Trimmed.{bytes_past}
use Rattle.treefs_edits.specs.Memories.{Memory}
use Rattle.treefs_edits.specs.Rooms.{has_room}
use Rattle.treefs_edits.specs.declared.tree.Tree.{Tree}
use Rattle.treefs_byte_plans.specs.Blanks.{blank_act, has_tail}
use Rattle.treefs_byte_plans.specs.Kept.{kept_up_to}
use Rattle.treefs_byte_plans.specs.Sizes.{has_bytes_behind}
use Rattle.treefs_byte_plans.specs.declared.blank.BlankPlan.{BlankPlan}
use Rattle.treefs.specs.Trimming.{Blanks, DoesIfAny, plan_of_blank}
use Rattle.treefs_values.specs.Bytes.{bucket_at, byte_over, place_in_bucket, put_within, with_put}
use Rattle.treefs_values.specs.Kinds.{kinds}
use Rattle.treefs_values.specs.Values.{KeepsBlocks}
use Rattle.treefs_values.specs.Volumes.{IsVolume}
use Rattle.treefs_values.specs.Ways.{block_numbered}
use Rattle.treefs_values.proofs.ForCallers.{acts_read, file_read, files_put, inode_numbered, numbered_same, put_in, put_new, same_listed, volume_put}
use Rattle.treefs_laws.proofs.BytesOver.{byte_cleared, byte_fades}
use Rattle.treefs_laws.proofs.Fading.{Fades, IsFaded, leaf_fades}
use Rattle.treefs_laws.proofs.Planned.{ran_acts}
use Rattle.treefs_laws.proofs.StillOpen.{ran_root}
use Rattle.treefs_laws.proofs.TimesWritten.{refused_whole}
use Rattle.treefs_laws.proofs.TrimParts.{IsFileAt, Stays, stays_same}

-- Zeros

blank_range : (f : ℕ → ℕ) (m a : ℕ) → ((p : ℕ) → a ≤ p → p < a + m → f p ≡ 0) → blank (map f (range_with_len a m)) ≡ true
blank_range f zero a none = refl
blank_range f (suc m) a none =
    and_from (f a == 0) (blank (map f (range_with_len (a + 1) m))) (eq-eqb (f a) 0 (none a (omega arith) (omega arith)))
    (blank_range f m (a + 1) (λ p low high. none p (omega arith) (omega arith)))

pub blank_at : (f : ℕ → ℕ) (m a : ℕ) → blank (map f (range_with_len a m)) ≡ true → (p : ℕ) → a ≤ p → p < a + m → f p ≡ 0
blank_at f zero a none p low lt = absurd (omega arith)
blank_at f (suc m) a none p low lt =
    let two = and_parts (f a == 0) (blank (map f (range_with_len (a + 1) m))) none in
    elim (cases_eq p a) [
      | inl same ↦ ap f same ∙ eqb-true (f a) 0 two.0
      | inr ne ↦ blank_at f m (a + 1) two.1 p (elim (cases_lt a p) [ inl past ↦ omega arith | inr le ↦ absurd (ne (omega arith)) ]) (omega arith)
    ]

pub zeros_are : (count i : ℕ) → slice_index (replicate {A = ℕ} count 0) i ≡ 0
zeros_are zero i = refl
zeros_are (suc count) zero = refl
zeros_are (suc count) (suc i) = zeros_are count i

second_false : (s t : Bool) → (s && t) ≡ false → s ≡ true → t ≡ false
second_false true t none is = none
second_false false t none is = absurd (cc is)

not_false : (t : Bool) → not t ≡ false → t ≡ true
not_false true e = refl
not_false false e = absurd (cc e)

not_true : (t : Bool) → not t ≡ true → t ≡ false
not_true true e = absurd (cc e)
not_true false e = refl

-- a leaf with bytes past one is there
pub leaf_past : (m : ℕ → List ℕ) (c end : ℕ) → 384 ≤ end → blank (bytes_past m c end) ≡ false → leaf_block m c (end / 512) ≢ 0
leaf_past m c end high some z =
    let left : part_left end ≡ 512 - end % 512 = ap (λ t. if t then 384 - end else 512 - end % 512) (le-ltb end 384 high) in
    true≢false (sym (blank_range (byte_of m c) (part_left end) end (λ p low lt.
    let same : p / 512 ≡ end / 512 = omega arith in
    ap (λ t. if t then slice_index (m c) (128 + p) else leaf_byte m (leaf_block m c (p / 512)) (p % 512)) (le-ltb p 384 (omega arith))
    ∙ (ap (λ i. leaf_byte m (leaf_block m c i) (p % 512)) same ∙ ap (λ x. leaf_byte m x (p % 512)) z))) ∙ some)

-- bytes past all of a list change none of it
module _ (f : ℕ → ℕ) (size first : ℕ) (bytes : List ℕ) (past : size ≤ first) where
  abbrev listed : List ℕ
  listed = map f (range_with_len 0 size)

  over_same : (i : ℕ) → i < size → byte_over first bytes (slice_index listed) i ≡ f i
  over_same i lt =
      ap (λ t. if t && nat_lt i (first + length bytes) then slice_index bytes (i - first) else slice_index listed i) (lt-leb first i (omega arith))
      ∙ get_or-map-range_with_len f 0 size i i 0 lt (omega arith)

  put_same : put_within first bytes listed ≡ listed
  put_same =
      ap (λ l. map (byte_over first bytes (slice_index listed)) (range_with_len 0 l)) (length-map-range_with_len f 0 size)
      ∙ same_listed (byte_over first bytes (slice_index listed)) f size over_same

-- Bytes past the size of a file are put

module _ (node inode top : ℕ) (type : ℕ → ℕ) (content : ℕ → List ℕ) (v : IsVolume node inode type content top) (n : ℕ) (number : n ≢ 0)
    (b_there : block_numbered content top n ≢ 0) (k : Kind) (is_kind : kind_of (fields_of (content (block_numbered content top n))).mode ≡ Some k) (no_directory : k ≢ kind.Directory)
    (first : ℕ) (bytes : List ℕ) (range : All (λ b. b < 256) bytes) (some : 0 < length bytes) (few : bucket_at first ≤ leaf_count) (fits : length bytes ≤ part_left first)
    (there : bucket_block content (block_numbered content top n) (bucket_at first) ≢ 0) (past : (fields_of (content (block_numbered content top n))).size ≤ first)
    (small : (fields_of (content (block_numbered content top n))).size ≤ greatest_size) (behind : Option ℕ) where
  abbrev b : ℕ
  b = block_numbered content top n

  abbrev was : Fields
  was = fields_of (content b)

  abbrev pub put : ℕ → List ℕ
  put = put_new node inode top type content v n number b_there bytes range some first few fits there behind

  pub put_numbered : block_numbered put top n ≡ b
  put_numbered = numbered_same node inode top type content put v.typed
      (put_in node inode top type content v n number b_there bytes range some first few fits there behind).keeps n

  pub put_fields : fields_of (put (block_numbered put top n)) ≡ was
  put_fields = ap (λ x. fields_of (put x)) put_numbered
      ∙ (put_in node inode top type content v n number b_there bytes range some first few fits there behind).fields

  pub put_volume : IsVolume node inode type put top
  put_volume = volume_put node inode top type content v n number b_there bytes range some first few fits there behind small k is_kind no_directory

  content_same : (k : Kind) → k ≢ kind.Directory →
      with_bytes (put_within first bytes) (content_at content (key_in content top) b was.parent k) ≡ content_at content (key_in content top) b was.parent k
  content_same kind.Directory other = absurd (other refl)
  content_same kind.File other = ap File (put_same (byte_of content b) was.size first bytes past)
  content_same kind.SymbolicLink other = ap SymbolicLink (put_same (byte_of content b) was.size first bytes past)

  own : files_of content top n ≡ Some (inode_with was (content_at content (key_in content top) b was.parent k))
  own = file_read content top n b (sym (inode_numbered content top n number)) b_there
      ∙ ap (option_map (λ k. inode_with was (content_at content (key_in content top) b was.parent k))) is_kind

  own_same : changed_in (with_put first bytes) (files_of content top n) ≡ files_of content top n
  own_same = ap (changed_in (with_put first bytes)) own ∙ (ap (λ x. Some (inode_with was x)) (content_same k no_directory) ∙ sym own)

  unchanged : changed_at (files_of content top) n (with_put first bytes) ≡ files_of content top
  unchanged = fun_ext (λ m. elim (cases_eq m n) [
    | inl is ↦ ap (λ t. if t then changed_in (with_put first bytes) (files_of content top n) else files_of content top m) (eq-eqb m n is)
        ∙ (own_same ∙ sym (ap (files_of content top) is))
    | inr ne ↦ ap (λ t. if t then changed_in (with_put first bytes) (files_of content top n) else files_of content top m) (ne_eqb m n ne)
  ])

  pub put_files : files_of put top ≡ files_of content top
  put_files = files_put node inode top type content v n number b_there bytes range some first few fits there behind small k is_kind no_directory ∙ unchanged

module _ (T : Types) (tree : Tree) (n : ℕ) (number : n ≢ 0) (c size : ℕ) (k : Kind) (no_directory : k ≢ kind.Directory) where
  abbrev fs : ℕ
  fs = tree.fs.number

  abbrev top : ℕ
  top = tree.top

  abbrev node : ℕ
  node = tree.node_type

  abbrev inode : ℕ
  inode = tree.inode_type

  abbrev At : StoreState → Type 0
  At s = IsFileAt T tree n number c size k no_directory s

  abbrev Stay : StoreState → StoreState → Type 0
  Stay old new = Stays T tree n number c size k no_directory old new

  module _ (old new : StoreState) (at : At old) (first : ℕ) (bytes : List ℕ) (range : All (λ b. b < 256) bytes) (some_bytes : 0 < length bytes) (few : bucket_at first ≤ leaf_count)
      (fits : length bytes ≤ part_left first) (there : bucket_block (readable old fs) (block_numbered (readable old fs) top n) (bucket_at first) ≢ 0) (past : size ≤ first)
      (small : size ≤ greatest_size) (zeros : (i : ℕ) → slice_index bytes i ≡ 0) (behind : Option ℕ)
      (ran : Ran T fs (patch_act (bucket_block (readable old fs) (block_numbered (readable old fs) top n) (bucket_at first))
      (one_patch (bucket_start (bucket_at first) + place_in_bucket first) bytes) behind ∷ []) old new (Ok tt)) where
    abbrev content : ℕ → List ℕ
    content = readable old fs

    abbrev in_block : ℕ
    in_block = block_numbered content top n

    abbrev act : Act
    act = patch_act (bucket_block content in_block (bucket_at first)) (one_patch (bucket_start (bucket_at first) + place_in_bucket first) bytes) behind

    v : IsVolume node inode (kinds old fs) content top
    v = at.here.volume

    b_there : in_block ≢ 0
    b_there z = at.there (sym at.block ∙ z)

    fine : (fields_of (content in_block)).size ≤ greatest_size
    fine = subst (λ s. s ≤ greatest_size) (sym at.size_is) small

    beyond : (fields_of (content in_block)).size ≤ first
    beyond = subst (λ s. s ≤ first) (sym at.size_is) past

    abbrev next : ℕ → List ℕ
    next = put node inode top (kinds old fs) content v n number b_there k at.kind_is no_directory first bytes range some_bytes few fits there beyond fine behind

    keep : All KeepsBlocks (act ∷ [])
    keep = All-cons KeepsBlocks act [] refl (All-nil KeepsBlocks)

    read : IsConsistent T new × (readable new fs ≡ next) × (kinds new fs ≡ kinds old fs)
    read = acts_read T fs (act ∷ []) old new at.here.store keep ran

    fields : fields_of (next (block_numbered next top n)) ≡ fields_of (content in_block)
    fields = put_fields node inode top (kinds old fs) content v n number b_there k at.kind_is no_directory first bytes range some_bytes few fits there beyond fine behind

    next_volume : IsVolume node inode (kinds old fs) next top
    next_volume = put_volume node inode top (kinds old fs) content v n number b_there k at.kind_is no_directory first bytes range some_bytes few fits there beyond fine behind

    next_block : block_numbered next top n ≡ c
    next_block = put_numbered node inode top (kinds old fs) content v n number b_there k at.kind_is no_directory first bytes range some_bytes few fits there beyond fine behind ∙ at.block

    faded : IsFaded content next c
    faded = record {
      leaves = λ i. subst (λ x. Fades (leaf_block content x i) (leaf_block next x i)) next_block
          (leaf_fades node inode top (kinds old fs) content next next_volume n (λ z. at.there (sym next_block ∙ z))
          (λ b o some has. inl ((put_in node inode top (kinds old fs) content v n number b_there bytes range some_bytes first few fits there behind).keeps b o has)) i);
      bytes = λ p low. subst (λ x. Fades (byte_of content x p) (byte_of next x p)) at.block
          (byte_fades node inode top (kinds old fs) content v n number b_there bytes range some_bytes first few fits there behind zeros p low);
    }

    put_stays : Stay old new
    put_stays = (
      record {
        here = record {
          store = read.0;
          root = ran_root T fs (act ∷ []) old new at.here.store keep ran ∙ at.here.root;
          volume = subst (λ t. IsVolume node inode t (readable new fs) top) (sym read.2) (subst (λ m. IsVolume node inode (kinds old fs) m top) (sym read.1) next_volume);
        };
        block = ap (λ m. block_numbered m top n) read.1 ∙ next_block;
        there = at.there;
        size_is = ap (λ m. (fields_of (m (block_numbered m top n))).size) read.1 ∙ (ap (λ (f : Fields). f.size) fields ∙ at.size_is);
        kind_is = ap (λ m. kind_of (fields_of (m (block_numbered m top n))).mode) read.1 ∙ (ap (λ (f : Fields). kind_of f.mode) fields ∙ at.kind_is);
      },
      ap (λ m. files_of m top) read.1
          ∙ put_files node inode top (kinds old fs) content v n number b_there k at.kind_is no_directory first bytes range some_bytes few fits there beyond fine behind,
      subst (λ m. IsFaded content m c) (sym read.1) faded,
    )

    put_clears : (p : ℕ) → p < greatest_size → first ≤ p → p < first + length bytes → byte_of (readable new fs) c p ≡ 0
    put_clears p low from to = ap (λ m. byte_of m c p) read.1 ∙ subst (λ x. byte_of next x p ≡ 0) at.block
        (byte_cleared node inode top (kinds old fs) content v n number b_there bytes range some_bytes first few fits there behind zeros p low from to)

  -- so many zeros
  put_so : (old new : StoreState) (at : At old) (first count : ℕ) → 0 < count → bucket_at first ≤ leaf_count → count ≤ part_left first →
      bucket_block (readable old fs) (block_numbered (readable old fs) top n) (bucket_at first) ≢ 0 → size ≤ first → size ≤ greatest_size → (behind : Option ℕ) →
      Ran T fs (patch_act (bucket_block (readable old fs) (block_numbered (readable old fs) top n) (bucket_at first))
      (one_patch (bucket_start (bucket_at first) + place_in_bucket first) (replicate count 0)) behind ∷ []) old new (Ok tt) →
      Stay old new × ((p : ℕ) → p < greatest_size → first ≤ p → p < first + count → byte_of (readable new fs) c p ≡ 0)
  put_so old new at first count some few fits there past small behind ran =
      let long : length (replicate {A = ℕ} count 0) ≡ count = length-replicate count 0 in
      let range = All-replicate (λ b. b < 256) count 0 (omega arith) in
      let some_bytes : 0 < length (replicate {A = ℕ} count 0) = omega arith in
      let fit : length (replicate {A = ℕ} count 0) ≤ part_left first = omega arith in (
        put_stays old new at first (replicate count 0) range some_bytes few fit there past small (zeros_are count) behind ran,
        λ p low from to. put_clears old new at first (replicate count 0) range some_bytes few fit there past small (zeros_are count) behind ran p low from (omega arith),
      )

  abbrev end : ℕ
  end = file_end size

  -- the bytes from the size on that stand together are 0
  abbrev Cleared : StoreState → Type 0
  Cleared s = (p : ℕ) → end ≤ p → p < end + part_left end → byte_of (readable s fs) c p ≡ 0

  -- where they stand in the inode, or in a leaf that is kept
  abbrev pub IsCleared : StoreState → Type 0
  IsCleared s = (end < 384) ⊎ ((384 < end) × (end < greatest_size) × (end % 512 ≢ 0)) → Cleared s

  module _ (old new : StoreState) (at : At old) where
    abbrev m : ℕ → List ℕ
    m = readable old fs

    abbrev place : ℕ
    place = block_numbered m top n

    -- in the inode
    in_inode : end < 384 → Ran T fs (blank_act (record { block = c; offset = 128 + end; behind = None }) ∷ []) old new (Ok tt) → Stay old new × Cleared new
    in_inode low ran =
        let bucket : bucket_at end ≡ 0 = ap (λ t. if t then 0 else end / 512 + 1) (lt-ltb end 384 low) in
        let at_place : place_in_bucket end ≡ end = ap (λ t. if t then end else end % 512) (lt-ltb end 384 low) in
        let left : part_left end ≡ 384 - end = ap (λ t. if t then 384 - end else 512 - end % 512) (lt-ltb end 384 low) in
        let is_block : c ≡ bucket_block m place (bucket_at end) = sym at.block ∙ ap (bucket_block m place) (sym bucket) in
        let s = put_so old new at end (512 - (128 + end)) (omega arith) (omega arith) (omega arith) (λ z. at.there (is_block ∙ z)) (omega arith) (omega arith) None
        (subst (λ (a : Act). Ran T fs (a ∷ []) old new (Ok tt))
        (λ j. patch_act (is_block j) (one_patch (bucket_start (sym bucket j) + sym at_place j) (replicate (512 - (128 + end)) 0)) None) ran) in
        (s.0, λ p from to. s.1 p (omega arith) from (omega arith))

    -- in a leaf
    leaf_there : 384 ≤ end → blank (bytes_past m c end) ≡ false → leaf_block m c (end / 512) ≢ 0
    leaf_there = leaf_past m c end

    in_leaf : 384 ≤ end → end < greatest_size → blank (bytes_past m c end) ≡ false →
        Ran T fs (blank_act (record { block = leaf_block m c (end / 512); offset = end % 512; behind = Some c }) ∷ []) old new (Ok tt) → Stay old new × Cleared new
    in_leaf high low some ran =
        let bucket : bucket_at end ≡ end / 512 + 1 = ap (λ t. if t then 0 else end / 512 + 1) (le-ltb end 384 high) in
        let at_place : place_in_bucket end ≡ end % 512 = ap (λ t. if t then end else end % 512) (le-ltb end 384 high) in
        let left : part_left end ≡ 512 - end % 512 = ap (λ t. if t then 384 - end else 512 - end % 512) (le-ltb end 384 high) in
        let bucket_some : bucket_at end ≢ 0 = λ z. absurd (omega (arith, z, bucket)) in
        let one_less : bucket_at end - 1 ≡ end / 512 = omega arith in
        let is_block : leaf_block m c (end / 512) ≡ bucket_block m place (bucket_at end) =
        (λ j. leaf_block m (sym at.block j) (sym one_less j))
        ∙ sym (ap (λ t. if t then place else leaf_block m place (bucket_at end - 1)) (ne_eqb (bucket_at end) 0 bucket_some)) in
        let start : 0 ≡ bucket_start (bucket_at end) = sym (ap (λ t. if t then 128 else 0) (ne_eqb (bucket_at end) 0 bucket_some)) in
        let at_offset : end % 512 ≡ bucket_start (bucket_at end) + place_in_bucket end = omega arith in
        let s = put_so old new at end (512 - end % 512) (omega arith) (omega arith) (omega arith) (λ z. leaf_there high some (is_block ∙ z)) (omega arith) (omega arith) (Some c)
        (subst (λ (a : Act). Ran T fs (a ∷ []) old new (Ok tt)) (λ j. patch_act (is_block j) (one_patch (at_offset j) (replicate (512 - end % 512) 0)) (Some c)) ran) in
        (s.0, λ p from to. s.1 p (omega arith) from (omega arith))

    -- nothing is to be put
    module _ (is_low : has_bytes_behind m c end ≡ false) (is_high : has_tail m c end ≡ false) where
      blank_there : (end < 384) ⊎ ((384 < end) × (end < greatest_size) × (end % 512 ≢ 0)) → blank (bytes_past m c end) ≡ true
      blank_there (inl low) = not_false (blank (bytes_past m c end)) (second_false (nat_lt end 384) (not (blank (bytes_past m c end))) is_low (lt-ltb end 384 low))
      blank_there (inr (high, few, rest)) =
          let one = second_false (nat_lt 384 end) (nat_lt end greatest_size && (not (end % 512 == 0) && not (blank (bytes_past m c end)))) is_high (lt-ltb 384 end high) in
          let two = second_false (nat_lt end greatest_size) (not (end % 512 == 0) && not (blank (bytes_past m c end))) one (lt-ltb end greatest_size few) in
          not_false (blank (bytes_past m c end)) (second_false (not (end % 512 == 0)) (not (blank (bytes_past m c end))) two (ap not (ne_eqb (end % 512) 0 rest)))

      was_cleared : IsCleared old
      was_cleared place p from to = blank_at (byte_of m c) (part_left end) end (blank_there place) p from to

  -- it stays, and where it was done bytes are 0
  abbrev Blanked : StoreState → StoreState → Result (Unit {0}) Fault → Type 0
  Blanked old new result = Stay old new × (result ≡ Ok tt → IsCleared new)

  one_blank : (old new : StoreState) (result : Result (Unit {0}) Fault) → At old → (plan : BlankPlan) →
      (Ran T fs (blank_act plan ∷ []) old new (Ok tt) → Stay old new × Cleared new) → DoesIfAny T fs (plan_of_blank (Ok (Some plan))) old new result → Blanked old new result
  one_blank old new (Ok tt) at plan stay does = let s = stay (ran_acts T fs (blank_act plan ∷ []) old new does) in (s.0, λ done place. s.1)
  one_blank old new (Err fault) at plan stay does =
      (stays_same T tree n number c size k no_directory old new at (refused_whole T fs (blank_act plan) old new fault does), λ done. absurd (cc done))

  abbrev leaf_plan : StoreState → BlankPlan
  leaf_plan old = record { block = leaf_block (readable old fs) c (end / 512); offset = end % 512; behind = Some c }

  blanked : (memory : Memory) (old new : StoreState) (result : Result (Unit {0}) Fault) → At old → Blanks T fs memory (kept_up_to c size) old new result → Blanked old new result
  blanked memory old new result at does = by (has_bytes_behind (readable old fs) c end) refl does
    where
      in_room : (t : Bool) → has_tail (readable old fs) c end ≡ true → DoesIfAny T fs (plan_of_blank (if t then Ok (Some (leaf_plan old)) else Err Full)) old new result →
          Blanked old new result
      in_room true is does =
          let one = and_parts (nat_lt 384 end) (nat_lt end greatest_size && (not (end % 512 == 0) && not (blank (bytes_past (readable old fs) c end)))) is in
          let two = and_parts (nat_lt end greatest_size) (not (end % 512 == 0) && not (blank (bytes_past (readable old fs) c end))) one.1 in
          let three = and_parts (not (end % 512 == 0)) (not (blank (bytes_past (readable old fs) c end))) two.1 in
          let high : 384 < end = ltb-true 384 end one.0 in
          one_blank old new result at (leaf_plan old) (in_leaf old new at (omega arith) (ltb-true end greatest_size two.0) (not_true (blank (bytes_past (readable old fs) c end)) three.1)) does
      in_room false is does = (stays_same T tree n number c size k no_directory old new at does.1, λ done. absurd (cc (sym done ∙ does.0)))

      tail : has_bytes_behind (readable old fs) c end ≡ false → (t : Bool) → has_tail (readable old fs) c end ≡ t →
          DoesIfAny T fs (plan_of_blank (if t then (if has_room old fs (length memory.touched) 10 (((leaf_plan old).block, 1) ∷ []) then Ok (Some (leaf_plan old)) else Err Full) else Ok None)) old new result →
          Blanked old new result
      tail none true is does = in_room (has_room old fs (length memory.touched) 10 (((leaf_plan old).block, 1) ∷ [])) is does
      tail none false is does =
          (stays_same T tree n number c size k no_directory old new at does.1, λ done. subst IsCleared (sym does.1) (was_cleared old new at none is))

      by : (t : Bool) → has_bytes_behind (readable old fs) c end ≡ t →
          DoesIfAny T fs (plan_of_blank (if t then Ok (Some (record { block = c; offset = 128 + end; behind = None })) else
          if has_tail (readable old fs) c end then (if has_room old fs (length memory.touched) 10 (((leaf_plan old).block, 1) ∷ []) then Ok (Some (leaf_plan old)) else Err Full) else Ok None)) old new result →
          Blanked old new result
      by true is does =
          let low = ltb-true end 384 (and_parts (nat_lt end 384) (not (blank (bytes_past (readable old fs) c end))) is).0 in
          one_blank old new result at (record { block = c; offset = 128 + end; behind = None }) (in_inode old new at low) does
      by false is does = tail is (has_tail (readable old fs) c end) refl does

  pub blanks_stay : (memory : Memory) (old new : StoreState) (result : Result (Unit {0}) Fault) → At old → Blanks T fs memory (kept_up_to c size) old new result → Stay old new
  blanks_stay memory old new result at does = (blanked memory old new result at does).0

  pub blanks_clear : (memory : Memory) (old new : StoreState) → At old → Blanks T fs memory (kept_up_to c size) old new (Ok tt) → IsCleared new
  blanks_clear memory old new at does = (blanked memory old new (Ok tt) at does).1 refl
