-- A new inode has no tree, and says its fields and the beginning of its content.
use mathlib.Core.Path.{fun_ext}
use Rattle.std.proofs.Common.{◌≡◌, ◌≢◌, ◌⊎◌, ℕ, suc, ◌+◌, ◌*◌, ◌-◌, ◌/◌, ◌%◌, ◌<◌, ◌≤◌, ◌&&◌, List, [], ◌∷◌, ◌++◌, length, get_or, None, Some, refl, sym, ◌∙◌, ap, inl, inr, arith, subst, lt-ltb, if◌then◌else◌}
use Rattle.std.specs.Prelude.{All, IsTrue, find, map, option_map, replicate, slice_index, ◌==◌}
use Rattle.std.specs.Int.{bytes_low_first, cast_unsigned, to_le_bytes, w16, w32, w64}
use Rattle.std.specs.List.{range_with_len}
use Rattle.std.proofs.lemmas.Bool.{cases_eq, false≢true, ne_eqb}
use Rattle.std.proofs.lemmas.List.{get_or-drop, get_or-replicate, get_or_append_left, length-map, get_or_default, same_lists}
use Rattle.std.proofs.lemmas.List.Elements.{All-append, All-cons, All-replicate}
use Rattle.std.proofs.lemmas.List.FromFn.{get_or-map-range_with_len, length-range_with_len}
use Rattle.std.proofs.lemmas.Option.{same_Some}
use Rattle.xn_model.specs.BareDisks.{zeros}
use Rattle.xn_model.specs.Root.{word_at}
use Rattle.treefs_format.proofs.ForCallers.{fields_read, inode_content, inode_pointers, no_length, words_get}
use Rattle.treefs_format.proofs.Made.{blank_drop, zeros_none}
use Rattle.treefs_format.specs.Buckets.{has_name as record_has_name, is_whole}
use Rattle.treefs_format.specs.Candidates.{candidates, name_hash}
use Rattle.treefs_format.specs.Fields.{AreInRange, field_bytes, fields_of, time_bytes}
use Rattle.treefs_format.specs.Inodes.{content_of, inode_bytes, kind_of, pointers_of}
use Rattle.treefs_format.specs.Nodes.{children_of, node_bytes}
use Rattle.treefs_format.specs.Paths.{steps}
use Rattle.treefs_format.specs.Records.{end_of, entries_of, is_live, placed}
use Rattle.treefs_format.specs.declared.fields.Fields.{Fields}
use Rattle.treefs_format.specs.declared.kind.Kind.{Kind}
use Rattle.treefs_format.specs.declared.kind.Kind.TheVariants as kind
use Rattle.treefs_model.specs.Files.{Directory, File, SymbolicLink}
use Rattle.treefs_model.specs.Reading.{block_at, bucket_of, byte_of, bytes_of, content_at, inode_of, inode_with, leaf_block, leaf_byte, number_among, number_of, pointed}
use Rattle.treefs_model.specs.Trees.{has_name, names_once}
use Rattle.treefs_values.specs.Attached.{IsFreeInode, new_content}
use Rattle.treefs_values.specs.Names.{bucket_entries}
use Rattle.treefs_values.specs.Volumes.{IsDirectory}
use Rattle.treefs_values.specs.Ways.{IsFirst, IsWay}
use Rattle.treefs_values.proofs.Alike.{in_leaf}
use Rattle.treefs_values.proofs.Numbered.{bytes_small}
use Rattle.treefs_values.proofs.Ways.{steps_way}
use Rattle.treefs_values.proofs.Zeros.{zeros_blank}

-- Pointers that are none

pub bare_inode : (m : List ℕ) → pointers_of m ≡ replicate 20 0 → (o : ℕ) → 48 ≤ o → o + 4 ≤ 128 → o % 4 ≡ 0 → word_at m o ≡ 0
bare_inode m none o low high four =
    let i : ℕ = (o - 48) / 4 in
    let lt : i < 20 = omega arith in
    let at : 48 + 4 * i ≡ o = omega arith in
    ap (word_at m) (sym at) ∙ (sym (words_get m 48 20 i 0 lt) ∙ (ap (λ ws. get_or ws i 0) none ∙ get_or-replicate 20 i 0 0 lt))

pub bare_node : (m : List ℕ) → children_of m ≡ replicate 127 0 → (o : ℕ) → 4 ≤ o → o + 4 ≤ 512 → o % 4 ≡ 0 → word_at m o ≡ 0
bare_node m none o low high four =
    let i : ℕ = (o - 4) / 4 in
    let lt : i < 127 = omega arith in
    let at : 4 + 4 * i ≡ o = omega arith in
    ap (word_at m) (sym at) ∙ (sym (words_get m 4 127 i 0 lt) ∙ (ap (λ ws. get_or ws i 0) none ∙ get_or-replicate 127 i 0 0 lt))

-- Bytes

abbrev IsByte : ℕ → Type 0
IsByte b = b < 256

pub node_small : (t : ℕ) → t < 256 → All (λ b. b < 256) (node_bytes t)
node_small t small = All-cons IsByte t (zeros 511) small (All-replicate IsByte 511 0 (omega arith))

with_bytes : (k n : ℕ) (rest : List ℕ) → All IsByte rest → All IsByte (bytes_low_first 0 k n ++ rest)
with_bytes k n rest all = All-append IsByte (bytes_low_first 0 k n) rest (bytes_small 0 k n) all

module _ (f : Fields) where
  abbrev from_parent : List ℕ
  from_parent = to_le_bytes w32 f.parent ++ to_le_bytes w32 f.generation

  abbrev from_ctime : List ℕ
  from_ctime = time_bytes f.ctime ++ from_parent

  abbrev from_mtime : List ℕ
  from_mtime = time_bytes f.mtime ++ from_ctime

  abbrev from_size : List ℕ
  from_size = to_le_bytes w64 f.size ++ from_mtime

  abbrev from_gid : List ℕ
  from_gid = to_le_bytes w32 f.gid ++ from_size

  abbrev from_uid : List ℕ
  from_uid = to_le_bytes w32 f.uid ++ from_gid

  abbrev from_links : List ℕ
  from_links = to_le_bytes w32 f.links ++ from_uid

  abbrev from_mode : List ℕ
  from_mode = to_le_bytes w16 f.mode ++ from_links

  fields_small : AreInRange f → All IsByte (field_bytes f)
  fields_small range =
      All-cons IsByte f.leaf_type (f.node_type ∷ from_mode) range.leaf_type (All-cons IsByte f.node_type from_mode range.node_type
      (with_bytes 2 f.mode from_links (with_bytes 4 f.links from_uid (with_bytes 4 f.uid from_gid (with_bytes 4 f.gid from_size (with_bytes 8 f.size from_mtime
      (with_bytes 8 (cast_unsigned w64 f.mtime) from_ctime (with_bytes 8 (cast_unsigned w64 f.ctime) from_parent
      (with_bytes 4 f.parent (to_le_bytes w32 f.generation) (bytes_small 0 4 f.generation))))))))))

pub inode_small : (fields : Fields) (head : List ℕ) → AreInRange fields → All (λ b. b < 256) head → All (λ b. b < 256) (inode_bytes fields head)
inode_small f head range small =
    All-append IsByte (field_bytes f) (zeros 80 ++ (head ++ zeros (384 - length head))) (fields_small f range)
    (All-append IsByte (zeros 80) (head ++ zeros (384 - length head)) (All-replicate IsByte 80 0 (omega arith))
    (All-append IsByte head (zeros (384 - length head)) small (All-replicate IsByte (384 - length head) 0 (omega arith))))

-- The inode

module _ (node inode : ℕ) (type : ℕ → ℕ) (content : ℕ → List ℕ) (key : List ℕ) (block : ℕ) (fields : Fields) (head : List ℕ)
    (is : content block ≡ inode_bytes fields head) (range : AreInRange fields) (short : length head ≤ 384) (size : fields.size ≡ length head) where
  pointers : pointers_of (content block) ≡ replicate 20 0
  pointers = ap pointers_of is ∙ inode_pointers fields head

  said : fields_of (content block) ≡ fields
  said = ap fields_of is ∙ fields_read fields head range

  begins : content_of (content block) ≡ head ++ zeros (384 - length head)
  begins = ap content_of is ∙ inode_content fields head

  none_at : (o l : ℕ) → IsFirst o l → pointed content block o ≡ 0
  none_at o l first = by (cases_eq block 0) (bare_inode (content block) pointers o (stands first).0 (stands first).1 (stands first).2)
    where
      stands : IsFirst o l → (48 ≤ o) × (o + 4 ≤ 128) × (o % 4 ≡ 0)
      stands (inl own) = let lt : own.0 < 16 = own.1 in let e : o ≡ 48 + 4 * own.0 = own.2 in (omega arith, omega arith, omega arith)
      stands (inr tree) = let low = tree.0 in let high = tree.1 in let e : o ≡ 108 + 4 * l = tree.2 in (omega arith, omega arith, omega arith)

      by : (block ≡ 0) ⊎ (block ≢ 0) → word_at (content block) o ≡ 0 → pointed content block o ≡ 0
      by (inl z) none = ap (λ b. pointed content b o) z
      by (inr some) none = ap (λ t. if t then 0 else word_at (content block) o) (ne_eqb block 0 some) ∙ none

  -- no way leads from it
  pub way_none : (l : ℕ) (os : List ℕ) → IsWay os l → block_at content block os ≡ 0
  way_none l [] way = absurd way
  way_none l (o ∷ []) way = none_at o l way
  way_none l (o ∷ p ∷ os) way = ap (λ c. pointed content c o) (way_none (suc l) (p ∷ os) way.3)

  leaf_none : (i : ℕ) → leaf_block content block i ≡ 0
  leaf_none i = way_none 0 (steps i) (steps_way i)

  -- its bytes
  bytes_are : bytes_of content block ≡ head
  bytes_are =
      ap (λ n. map (byte_of content block) (range_with_len 0 n)) (ap (λ (f : Fields). f.size) said ∙ size)
      ∙ same_lists (map (byte_of content block) (range_with_len 0 (length head))) head long
      (λ k d lt. let within : k < length head = subst (λ n. k < n) long lt in
      get_or-map-range_with_len (byte_of content block) 0 (length head) k k d within (omega arith) ∙ byte_is k d within)
    where
      long : length (map (byte_of content block) (range_with_len 0 (length head))) ≡ length head
      long = length-map (range_with_len 0 (length head)) (byte_of content block) ∙ length-range_with_len 0 (length head)

      byte_is : (k d : ℕ) → k < length head → byte_of content block k ≡ get_or head k d
      byte_is k d lt =
          let low : k < 384 = omega arith in
          ap (λ t. if t then slice_index (content block) (128 + k) else leaf_byte content (leaf_block content block (k / 512)) (k % 512)) (lt-ltb k 384 low)
          ∙ (sym (get_or-drop 128 (content block) k 0)
          ∙ (ap (λ m. get_or m k 0) begins ∙ (get_or_append_left head (zeros (384 - length head)) 0 k lt ∙ get_or_default head k 0 d lt)))

  -- its buckets
  module _ (empty : head ≡ []) where
    first_bucket : bucket_of content block 0 ≡ zeros 384
    first_bucket = begins ∙ ap (λ h. h ++ zeros (384 - length h)) empty

    other_bucket : (k : ℕ) → k ≢ 0 → bucket_of content block k ≡ []
    other_bucket k some = in_leaf content block k some ∙ ap (λ x. if x == 0 then [] else content x) (leaf_none (k - 1))

    no_entries : (k : ℕ) → bucket_entries content block k ≡ []
    no_entries k = elim (cases_eq k 0) [
      | inl z ↦ ap (bucket_entries content block) z ∙ (ap entries_of first_bucket ∙ zeros_none 384)
      | inr some ↦ ap entries_of (other_bucket k some) ∙ no_length [] refl
    ]

    whole_bucket : (k : ℕ) → IsTrue (is_whole (bucket_of content block k))
    whole_bucket k = elim (cases_eq k 0) [
      | inl z ↦ subst (λ j. IsTrue (is_whole (bucket_of content block j))) (sym z)
          (subst (λ m. IsTrue (is_whole m)) (sym first_bucket) (blank_drop (end_of (zeros 384)) (zeros 384) (zeros_blank 384)))
      | inr some ↦ subst (λ m. IsTrue (is_whole m)) (sym (other_bucket k some)) (blank_drop (end_of []) [] refl)
    ]

    lacks : (k : ℕ) (name : List ℕ) → IsTrue (has_name (bucket_entries content block k) name) → ⊥
    lacks k name has = false≢true (ap (λ es. has_name es name) (sym (no_entries k)) ∙ has)

    pub empty_directory : IsDirectory content key block
    empty_directory = record {
      names = record {
        once = λ k few. subst (λ es. IsTrue (names_once es)) (sym (no_entries k)) refl;
        apart = λ j k name few few' one other. absurd (lacks j name one);
      };
      placed = λ k name few has. absurd (lacks k name has);
      valid = λ k name few has. absurd (lacks k name has);
      whole = λ k few. whole_bucket k;
    }

    none_among : (name : List ℕ) (buckets : List ℕ) → number_among content block name buckets ≡ None
    none_among name [] = refl
    none_among name (k ∷ buckets) =
        rw (ap (λ es. find (λ r. is_live r.entry && record_has_name name r) (placed 0 es)) (no_entries k)) (none_among name buckets)

    no_names : number_of content key block ≡ (λ name. None)
    no_names = fun_ext (λ name. none_among name (candidates (name_hash key name)))

  content_is : (k : Kind) → (k ≡ kind.Directory → head ≡ []) → content_at content key block fields.parent k ≡ new_content k fields.parent head
  content_is kind.Directory empty = ap (Directory fields.parent) (no_names (empty refl))
  content_is kind.File empty = ap File bytes_are
  content_is kind.SymbolicLink empty = ap SymbolicLink bytes_are

  module _ (k : Kind) (kind_is : kind_of fields.mode ≡ Some k) (empty : k ≡ kind.Directory → head ≡ []) where
    pub new_value : inode_of content key block ≡ Some (inode_with fields (new_content k fields.parent head))
    new_value =
        ap (λ (f : Fields). option_map (λ k. inode_with f (content_at content key block f.parent k)) (kind_of f.mode)) said
        ∙ (ap (option_map (λ k. inode_with fields (content_at content key block fields.parent k))) kind_is
        ∙ ap (λ c. Some (inode_with fields c)) (content_is k empty))

    pub new_free : block ≢ 0 → type block ≡ inode → IsFreeInode node inode type content key block
    new_free there typed = record {
      there = there;
      typed = typed;
      tree = record {
        nodes = λ l os way some. absurd (some (way_none (suc l) os way));
        leaves = λ i few some. absurd (some (leaf_none i));
      };
      directory = λ is_directory. empty_directory (empty (same_Some k kind.Directory (sym kind_is ∙ (ap (λ (f : Fields). kind_of f.mode) (sym said) ∙ is_directory))));
    }
