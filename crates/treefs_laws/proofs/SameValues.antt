-- What an inode says where its blocks have the same bytes, and what a directory has where some of its buckets are gone.
use mathlib.Core.Path.{fun_ext}
use Rattle.std.proofs.Common.{◌≡◌, ◌⊎◌, ℕ, ◌+◌, ◌/◌, ◌%◌, ◌<◌, ◌≤◌, List, [], ◌∷◌, length, Option, None, Some, refl, sym, ◌∙◌, ap, inl, inr, subst, arith}
use Rattle.std.proofs.Common.{if◌then◌else◌}
use Rattle.std.specs.Prelude.{Contains, IsTrue, map, nat_lt, option_map, slice_index, ◌==◌}
use Rattle.std.specs.List.{range_with_len}
use Rattle.std.proofs.lemmas.Bool.{cases_eq, cases_lt, false≢true}
use Rattle.std.proofs.lemmas.List.{get_or_past}
use Rattle.std.proofs.lemmas.List.FromFn.{get_or-map-range_with_len, length-map-range_with_len}
use Rattle.xn_model.proofs.ForCallers.{Contains-none}
use Rattle.treefs_format.specs.Buckets.{is_whole}
use Rattle.treefs_format.specs.Candidates.{candidates, name_hash}
use Rattle.treefs_format.specs.Fields.{fields_of}
use Rattle.treefs_format.specs.Inodes.{content_of, kind_of}
use Rattle.treefs_format.specs.Paths.{leaf_count}
use Rattle.treefs_format.specs.Records.{Entry, entries_of}
use Rattle.treefs_format.specs.declared.fields.Fields.{Fields}
use Rattle.treefs_format.specs.declared.kind.Kind.{Kind}
use Rattle.treefs_format.specs.declared.kind.Kind.TheVariants as kind
use Rattle.treefs_model.specs.Files.{Directory, File, SymbolicLink}
use Rattle.treefs_model.specs.Reading.{bucket_of, byte_of, bytes_of, content_at, inode_of, inode_with, leaf_block, leaf_byte, number_among, number_of}
use Rattle.treefs_model.specs.Trees.{has_name, names_once}
use Rattle.treefs_values.specs.Names.{bucket_entries, first_number_in}
use Rattle.treefs_values.specs.Volumes.{IsDirectory}
use Rattle.treefs_values.proofs.ForCallers.{IsAlike, IsLiveEntry, among_numbers, bucket_same, live_leads, number_stands}
use Rattle.treefs_laws.specs.Orphans.{AreCleared, IsLeftOf}

module _ (old new : ℕ → List ℕ) (c : ℕ) (alike : IsAlike old new c) where
  among_same : (name : List ℕ) (buckets : List ℕ) → number_among new c name buckets ≡ number_among old c name buckets
  among_same name [] = refl
  among_same name (k ∷ buckets) = rw (bucket_same old new c alike.leaves alike.bytes k (ap content_of alike.own)) (rw (among_same name buckets) refl)

  byte_same : (p : ℕ) → byte_of new c p ≡ byte_of old c p
  byte_same p = (λ j. if nat_lt p 384 then slice_index (alike.own j) (128 + p) else leaf_byte_same (p / 512) (p % 512) j)
    where
      leaf_byte_same : (i at : ℕ) → leaf_byte new (leaf_block new c i) at ≡ leaf_byte old (leaf_block old c i) at
      leaf_byte_same i at = ap (λ x. leaf_byte new x at) (alike.leaves i) ∙ elim (cases_eq (leaf_block old c i) 0) [
        | inl z ↦ ap (λ x. leaf_byte new x at) z ∙ sym (ap (λ x. leaf_byte old x at) z)
        | inr some ↦ ap (λ m. if leaf_block old c i == 0 then 0 else slice_index m at) (alike.bytes i some)
      ]

  numbers_same : (key : List ℕ) → number_of new key c ≡ number_of old key c
  numbers_same key = fun_ext (λ name. among_same name (candidates (name_hash key name)))

  bytes_same : bytes_of new c ≡ bytes_of old c
  bytes_same = (λ j. map (fun_ext byte_same j) (range_with_len 0 (fields_of (alike.own j)).size))

  content_same : (key : List ℕ) (parent : ℕ) (k : Kind) → content_at new key c parent k ≡ content_at old key c parent k
  content_same key parent kind.Directory = (λ j. Directory parent (numbers_same key j))
  content_same key parent kind.File = (λ j. File (bytes_same j))
  content_same key parent kind.SymbolicLink = (λ j. SymbolicLink (bytes_same j))

  pub inode_alike : (key : List ℕ) → inode_of new key c ≡ inode_of old key c
  inode_alike key = (λ j. option_map (λ k. inode_with (fields_of (alike.own j)) (content_same key (fields_of (alike.own j)).parent k j))
      (kind_of (fields_of (alike.own j)).mode))

-- Directories

no_names : (name : List ℕ) → IsTrue (has_name (entries_of []) name) → ⊥
unfolding entries_of
no_names name has = false≢true has

no_entry : (e : Entry) → Contains (entries_of []) e → ⊥
unfolding entries_of
no_entry e has = Contains-none e has

none_twice : IsTrue (names_once (entries_of []))
unfolding entries_of
none_twice = refl

none_behind : IsTrue (is_whole [])
unfolding entries_of
none_behind = refl

module _ (old new : ℕ → List ℕ) (key : List ℕ) (c : ℕ) (fewer : (k : ℕ) → k ≤ leaf_count → (bucket_of new c k ≡ bucket_of old c k) ⊎ (bucket_of new c k ≡ []))
    (d : IsDirectory old key c) where
  was_there : (k : ℕ) (name : List ℕ) → k ≤ leaf_count → IsTrue (has_name (entries_of (bucket_of new c k)) name) →
      IsTrue (has_name (entries_of (bucket_of old c k)) name)
  was_there k name few has = elim (fewer k few) [
    | inl same ↦ subst (λ m. IsTrue (has_name (entries_of m) name)) same has
    | inr none ↦ absurd (no_names name (subst (λ m. IsTrue (has_name (entries_of m) name)) none has))
  ]

  pub fewer_buckets : IsDirectory new key c
  fewer_buckets = record {
    names = record {
      once = λ k few. elim (fewer k few) [
        | inl same ↦ subst (λ m. IsTrue (names_once (entries_of m))) (sym same) (d.names.once k few)
        | inr none ↦ subst (λ m. IsTrue (names_once (entries_of m))) (sym none) none_twice
      ];
      apart = λ j k name few few' one other. d.names.apart j k name few few' (was_there j name few one) (was_there k name few' other);
    };
    placed = λ k name few has. d.placed k name few (was_there k name few has);
    valid = λ k name few has. d.valid k name few (was_there k name few has);
    whole = λ k few. elim (fewer k few) [
      | inl same ↦ subst (λ m. IsTrue (is_whole m)) (sym same) (d.whole k few)
      | inr none ↦ subst (λ m. IsTrue (is_whole m)) (sym none) none_behind
    ];
  }

  -- each name leads where it led, or nowhere
  pub names_fewer : ((hash k : ℕ) → Contains (candidates hash) k → k ≤ leaf_count) → (name : List ℕ) →
      (number_of new key c name ≡ number_of old key c name) ⊎ (number_of new key c name ≡ None)
  names_fewer few name = by (first_number_in new c name buckets) refl
    where
      buckets : List ℕ
      buckets = candidates (name_hash key name)

      leads : (n : ℕ) → (k : ℕ) × Contains buckets k × IsLiveEntry (bucket_entries new c k) name n → first_number_in old c name buckets ≡ Some n
      leads n (k, has, is) =
          let k_few = few (name_hash key name) k has in
          let there : Contains (bucket_entries old c k) is.entry = elim (fewer k k_few) [
            | inl same ↦ subst (λ m. Contains (entries_of m) is.entry) same is.there
            | inr none ↦ absurd (no_entry is.entry (subst (λ m. Contains (entries_of m) is.entry) none is.there))
          ] in
          ap (λ x. first_number_in old c x buckets) (sym is.named)
          ∙ (live_leads old c d.names k k_few is.entry there is.live buckets (few (name_hash key name)) has ∙ ap Some is.numbered)

      by : (o : Option ℕ) → first_number_in new c name buckets ≡ o → (number_of new key c name ≡ number_of old key c name) ⊎ (number_of new key c name ≡ None)
      by None is = inr (among_numbers new c name buckets ∙ is)
      by (Some n) is = inl (among_numbers new c name buckets
          ∙ (is ∙ (sym (leads n (number_stands new c name buckets n is)) ∙ sym (among_numbers old c name buckets))))

-- What is left of a content

bytes_cleared : (old new : ℕ → List ℕ) (c : ℕ) → fields_of (new c) ≡ fields_of (old c) →
    ((p : ℕ) → (byte_of new c p ≡ byte_of old c p) ⊎ (byte_of new c p ≡ 0)) →
    AreCleared (bytes_of old c) (bytes_of new c)
bytes_cleared old new c same cleared = (length_new ∙ sym (length-map-range_with_len (byte_of old c) 0 size), λ i. by i (cases_lt i size))
  where
    size : ℕ
    size = (fields_of (old c)).size

    new_size : (fields_of (new c)).size ≡ size
    new_size = ap (λ (g : Fields). g.size) same

    length_new : length (bytes_of new c) ≡ size
    length_new = length-map-range_with_len (byte_of new c) 0 (fields_of (new c)).size ∙ new_size

    at : (content : ℕ → List ℕ) (i n : ℕ) → i < n → slice_index (map (byte_of content c) (range_with_len 0 n)) i ≡ byte_of content c i
    at content i n lt = get_or-map-range_with_len (byte_of content c) 0 n i i 0 lt (omega arith)

    by : (i : ℕ) → (i < size) ⊎ (size ≤ i) → (slice_index (bytes_of new c) i ≡ slice_index (bytes_of old c) i) ⊎ (slice_index (bytes_of new c) i ≡ 0)
    by i (inr past) = inr (get_or_past (bytes_of new c) i 0 (subst (λ n. n ≤ i) (sym length_new) past))
    by i (inl lt) =
        let here = at new i (fields_of (new c)).size (subst (λ n. i < n) (sym new_size) lt) in
        elim (cleared i) [ inl stays ↦ inl (here ∙ (stays ∙ sym (at old i size lt))) | inr none ↦ inr (here ∙ none) ]

pub content_left : (old new : ℕ → List ℕ) (key key' : List ℕ) (c parent : ℕ) (k : Kind) → key' ≡ key → fields_of (new c) ≡ fields_of (old c) →
    ((p : ℕ) → (byte_of new c p ≡ byte_of old c p) ⊎ (byte_of new c p ≡ 0)) →
    ((k : ℕ) → k ≤ leaf_count → (bucket_of new c k ≡ bucket_of old c k) ⊎ (bucket_of new c k ≡ [])) → (k ≡ kind.Directory → IsDirectory old key c) →
    ((hash k : ℕ) → Contains (candidates hash) k → k ≤ leaf_count) → IsLeftOf (content_at old key c parent k) (content_at new key' c parent k)
content_left old new key key' c parent kind.Directory same_key same bytes buckets directory few = (
  refl,
  λ name. subst (λ x. (number_of new x c name ≡ number_of old key c name) ⊎ (number_of new x c name ≡ None)) (sym same_key)
      (names_fewer old new key c buckets (directory refl) few name),
)
content_left old new key key' c parent kind.File same_key same bytes buckets directory few = bytes_cleared old new c same bytes
content_left old new key key' c parent kind.SymbolicLink same_key same bytes buckets directory few = bytes_cleared old new c same bytes
