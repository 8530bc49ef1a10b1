-- A file whose bytes are written.
use Rattle.std.proofs.Common.{◌≡◌, ◌≢◌, ℕ, ◌+◌, ◌-◌, ◌<◌, ◌≤◌, List, length, take, get_or, replicate, Option, Some, refl, sym, ◌∙◌, ap, inl, inr, arith, if◌then◌else◌, get_or-take, length-append, length-take-le, take_all}
use Rattle.std.specs.Prelude.{All, map, option_map, slice_index}
use Rattle.std.specs.List.{range_with_len}
use Rattle.std.proofs.lemmas.Bool.{cases_lt}
use Rattle.std.proofs.lemmas.List.{ext_get_or, get_or-append_right, get_or-replicate, get_or_append_left, length-replicate}
use Rattle.std.proofs.lemmas.Option.{same_Some}
use Rattle.std.proofs.lemmas.List.FromFn.{get_or-map-range_with_len, length-map-range_with_len}
use Rattle.treefs_format.specs.Fields.{fields_of}
use Rattle.treefs_format.specs.Inodes.{kind_of}
use Rattle.treefs_format.specs.Leaves.{greatest_size}
use Rattle.treefs_format.specs.Paths.{leaf_count}
use Rattle.treefs_format.specs.declared.fields.Fields.{Fields}
use Rattle.treefs_format.specs.declared.kind.Kind.{Kind}
use Rattle.treefs_format.specs.declared.kind.Kind.TheVariants as kind
use Rattle.treefs_model.specs.Changes.{resized, with_bytes}
use Rattle.treefs_model.specs.Files.{File, SymbolicLink, changed_at, changed_in}
use Rattle.treefs_model.specs.Reading.{byte_of, bytes_of, content_at, files_of, inode_with, key_in}
use Rattle.treefs_lookup.specs.Buckets.{bucket_block}
use Rattle.treefs_lookup.specs.Bytes.{part_left}
use Rattle.treefs_values.specs.Bytes.{bucket_at, byte_over, is_within, place_in_bucket, put_within, with_put}
use Rattle.treefs_values.specs.Volumes.{IsVolume}
use Rattle.treefs_values.specs.Ways.{block_numbered}
use Rattle.treefs_values.proofs.BytesPut.{byte_put, new, put_in, stands}
use Rattle.treefs_values.proofs.Elsewhere.{files_changed, own_read, own_was}
use Rattle.treefs_values.proofs.Kept.{still_volume}
use Rattle.treefs_values.proofs.Putting.{IsPut}

-- Lists of bytes

abbrev listed : (ℕ → ℕ) → ℕ → List ℕ
listed f size = map f (range_with_len 0 size)

length-listed : (f : ℕ → ℕ) (size : ℕ) → length (listed f size) ≡ size
length-listed f size = length-map-range_with_len f 0 size

get_listed : (f : ℕ → ℕ) (size i : ℕ) → i < size → get_or (listed f size) i 0 ≡ f i
get_listed f size i lt = get_or-map-range_with_len f 0 size i i 0 lt (omega arith)

pub same_listed : (f g : ℕ → ℕ) (size : ℕ) → ((i : ℕ) → i < size → f i ≡ g i) → listed f size ≡ listed g size
same_listed f g size same = ext_get_or 0 (listed f size) (listed g size) (length-listed f size ∙ sym (length-listed g size))
    (λ i lt. let few : i < size = let l = length-listed f size in omega arith in get_listed f size i few ∙ (same i few ∙ sym (get_listed g size i few)))

-- another size: cut, or with zeros behind
pub listed_resized : (f : ℕ → ℕ) (size size' : ℕ) → ((i : ℕ) → size ≤ i → i < size' → f i ≡ 0) → listed f size' ≡ resized size' (listed f size)
listed_resized f size size' zero = ext_get_or 0 (listed f size') (resized size' (listed f size)) (length-listed f size' ∙ sym long) (λ i lt. at i (let l = length-listed f size' in omega arith))
  where
    zeros : ℕ
    zeros = size' - length (listed f size)

    whole : size ≤ size' → length (take size' (listed f size)) ≡ size
    whole more = let l = length-listed f size in ap length (take_all size' (listed f size) (omega arith)) ∙ l

    front : length (take size' (listed f size)) + zeros ≡ size'
    front = elim (cases_lt size' size) [
      | inl less ↦ let l = length-listed f size in let t = length-take-le size' (listed f size) (omega arith) in omega arith
      | inr more ↦ let l = length-listed f size in let t = whole more in omega arith
    ]

    long : length (resized size' (listed f size)) ≡ size'
    long = length-append (take size' (listed f size)) (replicate zeros 0) ∙ (ap (λ k. length (take size' (listed f size)) + k) (length-replicate zeros 0) ∙ front)

    at : (i : ℕ) → i < size' → get_or (listed f size') i 0 ≡ get_or (resized size' (listed f size)) i 0
    at i lt = get_listed f size' i lt ∙ sym (elim (cases_lt i size) [
      | inl few ↦
          let l = length-listed f size in
          let few' : i < length (take size' (listed f size)) = elim (cases_lt size' size) [
            | inl less ↦ let t = length-take-le size' (listed f size) (omega arith) in omega arith
            | inr more ↦ let t = whole more in omega arith
          ] in
          get_or_append_left (take size' (listed f size)) (replicate zeros 0) 0 i few' ∙ (get_or-take size' (listed f size) i 0 lt ∙ get_listed f size i few)
      | inr past ↦
          let l = length-listed f size in
          get_or-append_right (take size' (listed f size)) (replicate zeros 0) size i 0 (whole (omega arith)) past
          ∙ (get_or-replicate zeros (i - size) 0 0 (omega arith) ∙ sym (zero i past lt))
    ])

-- buckets of bytes below the greatest size
few_buckets : (p : ℕ) → p < greatest_size → bucket_at p ≤ leaf_count
few_buckets p lt = elim (stands p) [
  | inl a ↦ let bucket = a.bucket in omega arith
  | inr b ↦ let bucket = b.bucket in omega arith
]

-- A file whose bytes are written, with the size that it has

module _ (node inode top : ℕ) (type : ℕ → ℕ) (old : ℕ → List ℕ) (v : IsVolume node inode type old top)
    (n : ℕ) (number : n ≢ 0) (there : block_numbered old top n ≢ 0) (bytes : List ℕ) (range : All (λ b. b < 256) bytes) (some : 0 < length bytes) (first : ℕ)
    (few : bucket_at first ≤ leaf_count) (fits : length bytes ≤ part_left first) (block_there : bucket_block old (block_numbered old top n) (bucket_at first) ≢ 0) (behind : Option ℕ) where
  abbrev c : ℕ
  c = block_numbered old top n

  abbrev key : List ℕ
  key = key_in old top

  abbrev was : Fields
  was = fields_of (old c)

  abbrev next : ℕ → List ℕ
  next = new node inode top type old v n number there bytes range some first few fits block_there behind

  p : IsPut node inode top type old v n number there bytes range (place_in_bucket first) behind (bucket_at first)
  p = put_in node inode top type old v n number there bytes range some first few fits block_there behind

  abbrev b : ℕ
  b = bucket_block old c (bucket_at first)

  module _ (size : was.size ≤ greatest_size) where
    -- as many bytes as before
    bytes_put : bytes_of next c ≡ put_within first bytes (bytes_of old c)
    bytes_put =
        let n_bytes : length (bytes_of old c) ≡ was.size = length-listed (byte_of old c) was.size in
        ap (λ (g : Fields). listed (byte_of next c) g.size) p.fields
        ∙ (same_listed (byte_of next c) (byte_over first bytes (slice_index (bytes_of old c))) was.size
        (λ i lt. byte_put node inode top type old v n number there bytes range some first few fits block_there behind i (few_buckets i (omega arith))
        ∙ ap (λ x. if is_within first (length bytes) i then slice_index bytes (i - first) else x) (sym (get_listed (byte_of old c) was.size i lt)))
        ∙ ap (listed (byte_over first bytes (slice_index (bytes_of old c)))) (sym n_bytes))

    module _ (k : Kind) (is_kind : kind_of was.mode ≡ Some k) (no_directory : k ≢ kind.Directory) where
      content_put : (k : Kind) → k ≢ kind.Directory → content_at next key c was.parent k ≡ with_bytes (put_within first bytes) (content_at old key c was.parent k)
      content_put kind.Directory other = absurd (other refl)
      content_put kind.File other = (λ j. File (bytes_put j))
      content_put kind.SymbolicLink other = (λ j. SymbolicLink (bytes_put j))

      pub files_put : files_of next top ≡ changed_at (files_of old top) n (with_put first bytes)
      files_put = files_changed node inode top type old next v.types.0 v.typed v.apart p.keeps n b number p.some p.part p.changed v.root (with_put first bytes)
          (own_read node inode top type old next v.types.0 v.typed v.apart p.keeps n b number p.some p.part p.changed v.root
          ∙ (ap (λ (g : Fields). option_map (λ k. inode_with g (content_at next key c g.parent k)) (kind_of g.mode)) p.fields
          ∙ (ap (option_map (λ k. inode_with was (content_at next key c was.parent k))) is_kind
          ∙ (ap Some (ap (inode_with was) (content_put k no_directory))
          ∙ sym (ap (changed_in (with_put first bytes)) (own_was node inode top type old next v.types.0 v.typed v.apart p.keeps n b number p.some p.part p.changed
          ∙ ap (option_map (λ k. inode_with was (content_at old key c was.parent k))) is_kind))))))

      pub volume_put : IsVolume node inode type next top
      volume_put = still_volume node inode top type old next v n b number p.some p.part p.changed p.keeps p.is_block
          (λ directory. absurd (no_directory (same_Some k kind.Directory (sym is_kind ∙ (sym (ap (λ (g : Fields). kind_of g.mode) p.fields) ∙ directory)))))
