-- Where the record of a name stands, and that it stands there still when other records are made or other inodes change.
--     Stands      a record of a name of a directory, live or dead, at a byte of a block
use mathlib.Core.Path.{fun_ext}
use Rattle.std.proofs.Common.{◌≡◌, ◌≢◌, ◌⊎◌, ℕ, ◌+◌, ◌-◌, ◌<◌, ◌≤◌, ◌^◌, Bool, true, false, cond, List, [], ◌∷◌, ◌++◌, length, take, drop, Option, None, Some, Ok, refl, sym, ◌∙◌, ap, inl, inr, arith, append_assoc, subst, if◌then◌else◌}
use Rattle.std.specs.Prelude.{All, Contains, IsTrue, filter, map, ◌==◌}
use Rattle.std.specs.Int.{w32, to_le_bytes}
use Rattle.std.proofs.lemmas.Bool.{cases_eq, eq-eqb, ne_eqb}
use Rattle.std.proofs.lemmas.Grind.{flat_map-append}
use Rattle.std.proofs.lemmas.List.{append-nil, take_at}
use Rattle.std.proofs.lemmas.List.Elements.{All-cons, All-head, All-nil, All-tail}
use Rattle.xn_model.specs.Calls.{Patch, patched}
use Rattle.xn_model.specs.Lists.{put}
use Rattle.xn_model.proofs.ForCallers.{Contains-cons, Contains-head, Contains-none, Contains-tail}
use Rattle.treefs_format.specs.Buckets.{renumbered, rewritten, room_without}
use Rattle.treefs_format.specs.Candidates.{candidates, name_hash}
use Rattle.treefs_format.specs.Fields.{fields_of}
use Rattle.treefs_format.specs.Inodes.{content_of, kind_of}
use Rattle.treefs_format.specs.Names.{is_name}
use Rattle.treefs_format.specs.Paths.{leaf_count, steps}
use Rattle.treefs_format.specs.Records.{Entry, Record, end_of, entries_of, entry_bytes, entry_length, is_live, joined, placed, records_of, total_length}
use Rattle.treefs_format.specs.declared.kind.Kind.TheVariants as kind
use Rattle.treefs_format.proofs.Made.{Split, bucket_of as format_bucket, live_within, no_length, split_at}
use Rattle.treefs_format.proofs.Parsed.{Fits, joined_read, length-joined}
use Rattle.treefs_format.proofs.ForCallers.{renumbered_read}
use Rattle.treefs_model.specs.Acts.{Act, number_act, one_patch, patch_act, record_act}
use Rattle.treefs_model.specs.Files.{with_name}
use Rattle.treefs_model.specs.Reading.{bucket_of, files_of, key_in, leaf_block}
use Rattle.treefs_lookup.specs.Buckets.{bucket_block, bucket_start}
use Rattle.treefs_lookup.specs.Names.{entry_found}
use Rattle.treefs_lookup.specs.declared.names.Slot.{Slot}
use Rattle.treefs_edits.specs.Kinds.{rewritten_act}
use Rattle.treefs_edits.specs.Written.{written}
use Rattle.treefs_values.specs.Names.{bucket_entries}
use Rattle.treefs_values.specs.Values.{led_to}
use Rattle.treefs_values.specs.Volumes.{IsVolume}
use Rattle.treefs_values.specs.Ways.{block_numbered}
use Rattle.treefs_values.proofs.Alike.{bucket_same, in_leaf}
use Rattle.treefs_values.proofs.Anew.{made_as_set, no_entries}
use Rattle.treefs_values.proofs.Apart.{inodes_apart, leaf_no_inode, leaves_apart}
use Rattle.treefs_values.proofs.Elsewhere.{key_stays, other_alike}
use Rattle.treefs_values.proofs.FoundEntries.{entry_is}
use Rattle.treefs_values.proofs.Making.{put_in as made_put, small as made_small}
use Rattle.treefs_values.proofs.Named.{candidates_few}
use Rattle.treefs_values.proofs.Numbered.{bucket_bytes, entries_set, files_set, fits, four_bytes, has_same_name, new_is, numbered_stays, old_is, put_in, total_append, volume_set}
use Rattle.treefs_values.proofs.Pending.{IsNew, New, inode_other, way_other}
use Rattle.treefs_values.proofs.Placing.{IsDirectoryAt, IsPlace}
use Rattle.treefs_values.proofs.Putting.{IsPut, after, length_put, written_here, written_other}
use Rattle.treefs_values.proofs.Rewriting.{act_is as rewriting_act, new_is as rewriting_new, put_in as rewriting_put, small as rewriting_small}
use Rattle.treefs_values.proofs.Standing.{IsKeptInode, KeepsNames}
use Rattle.treefs_values.proofs.Ways.{leaf_same, numbered_same, steps_way}

pub record Stands (content : ℕ → List ℕ) (top d : ℕ) (name : List ℕ) (block offset : ℕ) : Type 0 where
  pub number : d ≢ 0
  pub there : block_numbered content top d ≢ 0
  pub directory : kind_of (fields_of (content (block_numbered content top d))).mode ≡ Some kind.Directory
  pub bucket : ℕ
  pub few : bucket ≤ leaf_count
  pub record_of : Record
  pub of : Contains (records_of (bucket_of content (block_numbered content top d) bucket)) record_of
  pub named : record_of.entry.name ≡ name
  pub block_is : block ≡ bucket_block content (block_numbered content top d) bucket
  pub offset_is : offset ≡ bucket_start bucket + record_of.offset

-- one that is found, which is live
pub stands_found : (content : ℕ → List ℕ) (top d : ℕ) (name : List ℕ) (slot : Slot) → entry_found content top d name ≡ Ok slot →
    (s : Stands content top d name slot.block slot.offset) × (is_live s.record_of.entry ≡ true)
stands_found content top d name slot is =
    let e = entry_is content top d name slot is in (
      record {
        number = e.number;
        there = e.there;
        directory = e.directory;
        bucket = e.bucket;
        few = candidates_few (name_hash (key_in content top) name) e.bucket e.candidate;
        record_of = e.record_of;
        of = e.slot_is.of.there;
        named = e.slot_is.of.named;
        block_is = e.slot_is.block;
        offset_is = e.slot_is.offset;
      },
      e.slot_is.of.live,
    )

-- where the directory has the same block, and its bucket the same records
module _ (old new : ℕ → List ℕ) (top d : ℕ) (name : List ℕ) (block offset : ℕ) (s : Stands old top d name block offset) where
  abbrev c : ℕ
  c = block_numbered old top d

  pub stands_kept : block_numbered new top d ≡ c → fields_of (new c) ≡ fields_of (old c) → bucket_entries new c s.bucket ≡ bucket_entries old c s.bucket →
      bucket_block new c s.bucket ≡ bucket_block old c s.bucket → Stands new top d name block offset
  stands_kept numbered fields entries place = record {
    number = s.number;
    there = λ z. s.there (sym numbered ∙ z);
    directory = subst (λ x. kind_of (fields_of (new x)).mode ≡ Some kind.Directory) (sym numbered) (ap (λ f. kind_of f.mode) fields ∙ s.directory);
    bucket = s.bucket;
    few = s.few;
    record_of = s.record_of;
    of = subst (λ x. Contains (records_of (bucket_of new x s.bucket)) s.record_of) (sym numbered) (subst (λ es. Contains (placed 0 es) s.record_of) (sym entries) s.of);
    named = s.named;
    block_is = s.block_is ∙ (sym place ∙ ap (λ x. bucket_block new x s.bucket) (sym numbered));
    offset_is = s.offset_is;
  }

  pub stands_alike : IsKeptInode old new top d → Stands new top d name block offset
  stands_alike k = stands_kept k.block (ap fields_of k.alike.own)
      (ap entries_of (bucket_same old new c k.alike.leaves k.alike.bytes s.bucket (ap content_of k.alike.own)))
      (λ i. if s.bucket == 0 then c else k.alike.leaves (s.bucket - 1) i)

  -- its block is there
  pub stands_block : bucket_block old c s.bucket ≢ 0
  stands_block z = elim (cases_eq s.bucket 0) [
    | inl first ↦ s.there (sym (ap (λ t. if t then c else leaf_block old c (s.bucket - 1)) (eq-eqb s.bucket 0 first)) ∙ z)
    | inr other ↦
        let leaf : leaf_block old c (s.bucket - 1) ≡ 0 = sym (ap (λ t. if t then c else leaf_block old c (s.bucket - 1)) (ne_eqb s.bucket 0 other)) ∙ z in
        no_entries (bucket_of old c s.bucket) s.record_of (in_leaf old c s.bucket other ∙ ap (λ x. if x == 0 then [] else old x) leaf) s.of
  ]

  pub stands_names : KeepsNames old new top d → Stands new top d name block offset
  stands_names k = stands_kept k.block k.fields (k.entries s.bucket) (by (cases_eq s.bucket 0))
    where
      by : (s.bucket ≡ 0) ⊎ (s.bucket ≢ 0) → bucket_block new c s.bucket ≡ bucket_block old c s.bucket
      by (inl first) = (λ i. if eq-eqb s.bucket 0 first i then c else leaf_block new c (s.bucket - 1))
          ∙ sym (ap (λ t. if t then c else leaf_block old c (s.bucket - 1)) (eq-eqb s.bucket 0 first))
      by (inr other) =
          let old_leaf = ap (λ t. if t then c else leaf_block old c (s.bucket - 1)) (ne_eqb s.bucket 0 other) in
          ap (λ t. if t then c else leaf_block new c (s.bucket - 1)) (ne_eqb s.bucket 0 other)
          ∙ (k.leaves (s.bucket - 1) (λ z. stands_block (old_leaf ∙ z)) ∙ sym old_leaf)

-- Bytes are put into a bucket

module _ (node inode top : ℕ) (type : ℕ → ℕ) (old : ℕ → List ℕ) (v : IsVolume node inode type old top)
    (n : ℕ) (number : n ≢ 0) (there : block_numbered old top n ≢ 0) (bytes : List ℕ) (range : All (λ b. b < 256) bytes) (at : ℕ) (behind : Option ℕ) (k : ℕ)
    (p : IsPut node inode top type old v n number there bytes range at behind k) where
  abbrev new : ℕ → List ℕ
  new = after node inode top type old v n number there bytes range at behind k

  pub put_numbered : (m : ℕ) → block_numbered new top m ≡ block_numbered old top m
  put_numbered m = numbered_same node inode top type old new v.typed p.keeps m

  own_stands : (name : List ℕ) (block offset : ℕ) → Stands old top n name block offset → block ≢ bucket_block old (block_numbered old top n) k → Stands new top n name block offset
  own_stands name block offset s ne =
      let c : ℕ = block_numbered old top n in
      stands_kept old new top n name block offset s (put_numbered n) p.fields
      (ap entries_of (p.others s.bucket s.few (λ same. ne (s.block_is ∙ ap (bucket_block old c) same))))
      (λ i. if s.bucket == 0 then c else leaf_same node inode top type old new v.typed p.keeps n (s.bucket - 1) i)

  -- records in other blocks stay
  pub put_stands : (d : ℕ) (name : List ℕ) (block offset : ℕ) → Stands old top d name block offset → block ≢ bucket_block old (block_numbered old top n) k →
      Stands new top d name block offset
  put_stands d name block offset s ne = elim (cases_eq d n) [
    | inl same ↦ subst (λ x. Stands new top x name block offset) (sym same) (own_stands name block offset (subst (λ x. Stands old top x name block offset) same s) ne)
    | inr other ↦
        let alike = other_alike node inode top type old new v.types.0 v.typed v.apart p.keeps n (bucket_block old (block_numbered old top n) k) number p.some p.part
        p.changed d other s.number s.there in
        let c : ℕ = block_numbered old top d in
        stands_kept old new top d name block offset s (put_numbered d) (ap fields_of alike.own)
        (ap entries_of (bucket_same old new c alike.leaves alike.bytes s.bucket (ap content_of alike.own)))
        (λ i. if s.bucket == 0 then c else alike.leaves (s.bucket - 1) i)
  ]

-- The number of a record that stands somewhere is set

contains_map : (g : Record → Record) (rs : List Record) (r : Record) → Contains rs r → Contains (map g rs) (g r)
contains_map g [] r has = absurd (Contains-none r has)
contains_map g (x ∷ rs) r has = elim (Contains-cons x rs r has) [
  | inl same ↦ subst (λ y. Contains (g x ∷ map g rs) (g y)) same (Contains-head (g x) (map g rs))
  | inr later ↦ Contains-tail (g x) (map g rs) (g r) (contains_map g rs r later)
]

renumbered_same : (place number : ℕ) (r : Record) → ((renumbered place number r).offset ≡ r.offset) × ((renumbered place number r).entry.name ≡ r.entry.name)
renumbered_same place number r = by (r.offset == place)
  where
    set : Record
    set = record r { entry = record { number = number; name = r.entry.name } }

    by : (t : Bool) → ((if t then set else r).offset ≡ r.offset) × ((if t then set else r).entry.name ≡ r.entry.name)
    by true = (refl, refl)
    by false = (refl, refl)

total_set : (before behind : List Entry) (e x : Entry) → e.name ≡ x.name → total_length (before ++ e ∷ behind) ≡ total_length (before ++ x ∷ behind)
total_set before behind e x same =
    total_append before (e ∷ behind) ∙ (ap (λ m. total_length before + (5 + length m + total_length behind)) same ∙ sym (total_append before (x ∷ behind)))

module _ (node inode top : ℕ) (type : ℕ → ℕ) (old : ℕ → List ℕ) (v : IsVolume node inode type old top) (d : ℕ) (name : List ℕ) (block offset : ℕ)
    (s : Stands old top d name block offset) (now : ℕ) (short : now < 2 ^ 32) (behind : Option ℕ) where
  abbrev at : ℕ
  at = block_numbered old top d

  abbrev r : Record
  r = s.record_of

  abbrev by_record : Act
  by_record = number_act (bucket_block old at s.bucket) (bucket_start s.bucket + s.record_of.offset) now behind

  abbrev later : ℕ → List ℕ
  later = written by_record old

  act_is : by_record ≡ number_act block offset now behind
  act_is = (λ j. number_act (sym s.block_is j) (sym s.offset_is j) now behind)

  pub set_volume : IsVolume node inode type (written (number_act block offset now behind) old) top
  set_volume = subst (λ a. IsVolume node inode type (written a old) top) act_is
      (volume_set node inode top type old v d s.number s.there s.bucket s.few r s.of now short behind s.directory)

  pub set_files : files_of (written (number_act block offset now behind) old) top ≡ with_name (files_of old top) d name (led_to now)
  set_files =
      ap (λ a. files_of (written a old) top) (sym act_is)
      ∙ (files_set node inode top type old v d s.number s.there s.bucket s.few r s.of now short behind s.directory
      ∙ ap (λ x. with_name (files_of old top) d x (led_to now)) s.named)

  same_numbers : (m : ℕ) → block_numbered later top m ≡ block_numbered old top m
  same_numbers m = numbered_stays node inode top type old v d s.number s.there s.bucket s.few r s.of now short behind m

  pub set_numbered : (m : ℕ) → block_numbered (written (number_act block offset now behind) old) top m ≡ block_numbered old top m
  set_numbered m = subst (λ a. block_numbered (written a old) top m ≡ block_numbered old top m) act_is (same_numbers m)

  p : IsPut node inode top type old v d s.number s.there (to_le_bytes w32 now) (four_bytes now).1 r.offset behind s.bucket
  p = put_in node inode top type old v d s.number s.there s.bucket s.few r s.of now short behind

  -- records in other blocks, and others of the directory, stay

  pub set_others : (d' : ℕ) (name' : List ℕ) (block' offset' : ℕ) → Stands old top d' name' block' offset' → block' ≢ block →
      Stands (written (number_act block offset now behind) old) top d' name' block' offset'
  set_others d' name' block' offset' s' ne = subst (λ a. Stands (written a old) top d' name' block' offset') act_is
      (put_stands node inode top type old v d s.number s.there (to_le_bytes w32 now) (four_bytes now).1 r.offset behind s.bucket p d' name' block' offset' s' (λ same. ne (same ∙ sym s.block_is)))

  same_places : (k : ℕ) → bucket_block later at k ≡ bucket_block old at k
  same_places k = (λ i. if k == 0 then at else leaf_same node inode top type old later v.typed p.keeps d (k - 1) i)

  bytes : (k : ℕ) → All (λ b. b < 256) (bucket_of old at s.bucket)
  bytes k = bucket_bytes node inode top type old v d s.number s.there s.bucket s.few

  -- each record of the directory is there still, with its name, at its place
  record_stays : (k : ℕ) → k ≤ leaf_count → (x : Record) → Contains (records_of (bucket_of old at k)) x →
      (y : Record) × Contains (records_of (bucket_of later at k)) y × (y.offset ≡ x.offset) × (y.entry.name ≡ x.entry.name)
  record_stays k few x has = elim (cases_eq k s.bucket) [
    | inl same ↦ own same
    | inr ne ↦ (x, subst (λ es. Contains (placed 0 es) x) (sym (ap entries_of (p.others k few ne))) has, refl, refl)
  ]
    where
      own : k ≡ s.bucket → (y : Record) × Contains (records_of (bucket_of later at k)) y × (y.offset ≡ x.offset) × (y.entry.name ≡ x.entry.name)
      own same =
          let here : Contains (records_of (bucket_of old at s.bucket)) x = subst (λ j. Contains (records_of (bucket_of old at j)) x) same has in
          let set : records_of (bucket_of later at s.bucket) ≡ map (renumbered r.offset now) (records_of (bucket_of old at s.bucket)) =
          ap records_of p.bucket ∙ renumbered_read (bucket_of old at s.bucket) r now (bytes k) s.of short in
          let is = renumbered_same r.offset now x in (
            renumbered r.offset now x,
            subst (λ j. Contains (records_of (bucket_of later at j)) (renumbered r.offset now x)) (sym same)
                (subst (λ rs. Contains rs (renumbered r.offset now x)) (sym set) (contains_map (renumbered r.offset now) (records_of (bucket_of old at s.bucket)) x here)),
            is.0,
            is.1,
          )

  pub set_beside : (name' : List ℕ) (block' offset' : ℕ) → Stands old top d name' block' offset' → Stands (written (number_act block offset now behind) old) top d name' block' offset'
  set_beside name' block' offset' s' =
      let y = record_stays s'.bucket s'.few s'.record_of s'.of in
      subst (λ a. Stands (written a old) top d name' block' offset') act_is (record {
        number = s'.number;
        there = λ z. s'.there (sym (same_numbers d) ∙ z);
        directory = subst (λ x. kind_of (fields_of (later x)).mode ≡ Some kind.Directory) (sym (same_numbers d)) (ap (λ g. kind_of g.mode) p.fields ∙ s'.directory);
        bucket = s'.bucket;
        few = s'.few;
        record_of = y.0;
        of = subst (λ x. Contains (records_of (bucket_of later x s'.bucket)) y.0) (sym (same_numbers d)) y.1;
        named = y.3 ∙ s'.named;
        block_is = s'.block_is ∙ (sym (same_places s'.bucket) ∙ ap (λ x. bucket_block later x s'.bucket) (sym (same_numbers d)));
        offset_is = s'.offset_is ∙ ap (λ o. bucket_start s'.bucket + o) (sym y.2);
      })

  -- so does a place for another name of the directory

  ends_stay : (k : ℕ) → k ≤ leaf_count → end_of (bucket_of later at k) ≡ end_of (bucket_of old at k)
  ends_stay k few = elim (cases_eq k s.bucket) [
    | inl same ↦
        let e = entries_set node inode top type old v d s.number s.there s.bucket s.few r s.of now short behind in
        subst (λ j. end_of (bucket_of later at j) ≡ end_of (bucket_of old at j)) (sym same)
        (ap total_length (new_is node inode top type old v d s.number s.there s.bucket s.few r s.of now short behind)
        ∙ (total_set e.before e.behind (record { number = now; name = r.entry.name }) r.entry refl
        ∙ sym (ap total_length (old_is node inode top type old v d s.number s.there s.bucket s.few r s.of now short behind))))
    | inr ne ↦ ap end_of (p.others k few ne)
  ]

  lengths_stay : (k : ℕ) → k ≤ leaf_count → length (bucket_of later at k) ≡ length (bucket_of old at k)
  lengths_stay k few = elim (cases_eq k s.bucket) [
    | inl same ↦ subst (λ j. length (bucket_of later at j) ≡ length (bucket_of old at j)) (sym same)
        (ap length p.bucket ∙ length_put (bucket_of old at s.bucket) (to_le_bytes w32 now) r.offset
        (fits node inode top type old v d s.number s.there s.bucket s.few r s.of now short behind))
    | inr ne ↦ ap length (p.others k few ne)
  ]

  pub set_place : (key name' : List ℕ) (block' offset' : ℕ) → IsPlace old key at name' block' offset' → IsPlace (written (number_act block offset now behind) old) key at name' block' offset'
  set_place key name' block' offset' place = subst (λ a. IsPlace (written a old) key at name' block' offset') act_is (by place)
    where
      few_of : (k : ℕ) → Contains (candidates (name_hash key name')) k → k ≤ leaf_count
      few_of k has = candidates_few (name_hash key name') k has

      by : IsPlace old key at name' block' offset' → IsPlace later key at name' block' offset'
      by (inr q) =
          let y = record_stays q.bucket (few_of q.bucket q.candidate) q.record_of q.there in
          inr (record {
            bucket = q.bucket;
            candidate = q.candidate;
            record_of = y.0;
            there = y.1;
            named = y.3 ∙ q.named;
            block_is = q.block_is ∙ sym (same_places q.bucket);
            offset_is = q.offset_is ∙ ap (λ o. bucket_start q.bucket + o) (sym y.2);
          })
      by (inl q) =
          let few = few_of q.bucket q.candidate in
          inl (record {
            bucket = q.bucket;
            candidate = q.candidate;
            block_is = q.block_is ∙ sym (same_places q.bucket);
            offset_is = q.offset_is ∙ ap (λ e. bucket_start q.bucket + e) (sym (ends_stay q.bucket few));
            room = subst (λ x. 5 + length name' ≤ x) (sym (λ i. lengths_stay q.bucket few i - ends_stay q.bucket few i)) q.room;
            none = λ j has. has_same_name node inode top type old v d s.number s.there s.bucket s.few r s.of now short behind s.directory j name' (few_of j has) ∙ q.none j has;
          })

  -- and the directory
  pub set_directory : (key : List ℕ) → IsDirectoryAt old top d at key → IsDirectoryAt (written (number_act block offset now behind) old) top d at key
  set_directory key is = subst (λ a. IsDirectoryAt (written a old) top d at key) act_is (record {
    number = is.number;
    there = is.there;
    block = same_numbers d;
    key_is = key_stays node inode top type old later v.types.0 v.typed v.apart p.keeps d (bucket_block old at s.bucket) s.number p.some p.part p.changed v.root ∙ is.key_is;
    directory = ap (λ g. kind_of g.mode) p.fields ∙ s.directory;
  })

-- A record is made at a place

module _ (node inode top : ℕ) (type : ℕ → ℕ) (old : ℕ → List ℕ) (v : IsVolume node inode type old top) (d c : ℕ) (key : List ℕ)
    (at : IsDirectoryAt old top d c key) (name : List ℕ) (number : ℕ) (short : number < 2 ^ 32) (named : IsTrue (is_name name)) (range : All (λ b. b < 256) name)
    (long : length name < 256) (behind : Option ℕ) (block offset : ℕ) (place : IsPlace old key c name block offset) where
  abbrev e : Entry
  e = record { number = number; name = name }

  abbrev Keeps : (ℕ → List ℕ) → ℕ → Type 0
  Keeps new b = ((m : ℕ) → block_numbered new top m ≡ block_numbered old top m)
      × ((d' : ℕ) (name' : List ℕ) (block' offset' : ℕ) → Stands old top d' name' block' offset' → block' ≢ b → Stands new top d' name' block' offset')

  some : block_numbered old top d ≢ 0
  some z = at.there (sym at.block ∙ z)

  is_directory : kind_of (fields_of (old (block_numbered old top d))).mode ≡ Some kind.Directory
  is_directory = subst (λ x. kind_of (fields_of (old x)).mode ≡ Some kind.Directory) (sym at.block) at.directory

  keeps_by : IsPlace old (key_in old top) (block_numbered old top d) name block offset → Keeps (written (record_act block offset e behind) old) block
  keeps_by (inl q) =
      let few = candidates_few (name_hash (key_in old top) name) q.bucket q.candidate in
      let own = made_put node inode top type old v d at.number some q.bucket few e short named range long q.room behind is_directory q.candidate q.none in
      let small = made_small node inode top type old v d at.number some q.bucket few e short named range long q.room behind is_directory q.candidate q.none in
      let end : ℕ = end_of (bucket_of old (block_numbered old top d) q.bucket) in
      subst (λ (x : ℕ × ℕ). Keeps (written (record_act x.0 x.1 e behind) old) x.0) (λ j. (sym q.block_is j, sym q.offset_is j)) (
        put_numbered node inode top type old v d at.number some (entry_bytes e) small end behind q.bucket own,
        put_stands node inode top type old v d at.number some (entry_bytes e) small end behind q.bucket own,
      )
  keeps_by (inr q) =
      let few = candidates_few (name_hash (key_in old top) name) q.bucket q.candidate in
      let own = put_in node inode top type old v d at.number some q.bucket few q.record_of q.there number short behind in
      let b : ℕ = bucket_block old (block_numbered old top d) q.bucket in
      let o : ℕ = bucket_start q.bucket + q.record_of.offset in
      let set : Keeps (written (number_act b o number behind) old) b = (
        put_numbered node inode top type old v d at.number some (to_le_bytes w32 number) (four_bytes number).1 q.record_of.offset behind q.bucket own,
        put_stands node inode top type old v d at.number some (to_le_bytes w32 number) (four_bytes number).1 q.record_of.offset behind q.bucket own,
      ) in
      let made : Keeps (written (record_act b o (record { number = number; name = q.record_of.entry.name }) behind) old) b =
      subst (λ m. Keeps m b) (sym (made_as_set node inode top type old v d at.number some q.bucket few q.record_of q.there number behind short is_directory)) set in
      subst (λ (x : ℕ × ℕ × List ℕ). Keeps (written (record_act x.0 x.1 (record { number = number; name = x.2 }) behind) old) x.0)
      (λ j. (sym q.block_is j, sym q.offset_is j, q.named j)) made

  pub placed_keeps : ((m : ℕ) → block_numbered (written (record_act block offset e behind) old) top m ≡ block_numbered old top m)
      × ((d' : ℕ) (name' : List ℕ) (block' offset' : ℕ) → Stands old top d' name' block' offset' → block' ≢ block →
      Stands (written (record_act block offset e behind) old) top d' name' block' offset')
  placed_keeps = keeps_by (subst (λ k. IsPlace old k (block_numbered old top d) name block offset) (sym at.key_is) (subst (λ x. IsPlace old key x name block offset) (sym at.block) place))

-- It stands in the directory alone

module _ (node inode top : ℕ) (type : ℕ → ℕ) (old : ℕ → List ℕ) (v : IsVolume node inode type old top) (d : ℕ) (name : List ℕ) (block offset : ℕ)
    (s : Stands old top d name block offset) where
  abbrev own : ℕ
  own = block_numbered old top d

  own_leaf : s.bucket ≢ 0 → bucket_block old own s.bucket ≡ leaf_block old own (s.bucket - 1)
  own_leaf other = ap (λ t. if t then own else leaf_block old own (s.bucket - 1)) (ne_eqb s.bucket 0 other)

  own_inode : s.bucket ≡ 0 → bucket_block old own s.bucket ≡ own
  own_inode first = ap (λ t. if t then own else leaf_block old own (s.bucket - 1)) (eq-eqb s.bucket 0 first)

  pub same_bucket : (d' k : ℕ) → d' ≢ 0 → k ≤ leaf_count → block ≡ bucket_block old (block_numbered old top d') k → (d ≡ d') × (s.bucket ≡ k)
  same_bucket d' k d'_some few is = by (cases_eq s.bucket 0) (cases_eq k 0)
    where
      c' : ℕ
      c' = block_numbered old top d'

      same : bucket_block old own s.bucket ≡ bucket_block old c' k
      same = sym s.block_is ∙ is

      leaf : k ≢ 0 → bucket_block old c' k ≡ leaf_block old c' (k - 1)
      leaf other = ap (λ t. if t then c' else leaf_block old c' (k - 1)) (ne_eqb k 0 other)

      in_inode : k ≡ 0 → bucket_block old c' k ≡ c'
      in_inode first = ap (λ t. if t then c' else leaf_block old c' (k - 1)) (eq-eqb k 0 first)

      by : (s.bucket ≡ 0) ⊎ (s.bucket ≢ 0) → (k ≡ 0) ⊎ (k ≢ 0) → (d ≡ d') × (s.bucket ≡ k)
      by (inl a) (inl b) = (
        inodes_apart node inode top type old v.types.0 v.typed v.apart d d' s.there (sym (own_inode a) ∙ (same ∙ in_inode b)),
        a ∙ sym b,
      )
      by (inl a) (inr b) =
          let e : own ≡ leaf_block old c' (k - 1) = sym (own_inode a) ∙ (same ∙ leaf b) in
          absurd (leaf_no_inode node inode top type old v.types.0 v.typed v.apart d' d (k - 1) d'_some (λ z. s.there (e ∙ z)) (sym e))
      by (inr a) (inl b) =
          let e : leaf_block old own (s.bucket - 1) ≡ c' = sym (own_leaf a) ∙ (same ∙ in_inode b) in
          absurd (leaf_no_inode node inode top type old v.types.0 v.typed v.apart d d' (s.bucket - 1) s.number
          (λ z. stands_block old old top d name block offset s (own_leaf a ∙ z)) e)
      by (inr a) (inr b) =
          let high = s.few in
          let e = leaves_apart node inode top type old v.types.0 v.typed v.apart d d' (s.bucket - 1) (k - 1) (omega arith) (omega arith)
          (λ z. stands_block old old top d name block offset s (own_leaf a ∙ z)) (sym (own_leaf a) ∙ (same ∙ leaf b)) in
          let places : s.bucket - 1 ≡ k - 1 = e.1 in
          (e.0, omega arith)

  pub stands_there : block ≢ 0
  stands_there z = stands_block old old top d name block offset s (sym s.block_is ∙ z)

  -- and in no new block
  pub stands_other : (x : New) → IsNew node inode type old top x → block ≢ x.block
  stands_other x is same = by (cases_eq s.bucket 0)
    where
      by : (s.bucket ≡ 0) ⊎ (s.bucket ≢ 0) → ⊥
      by (inl a) = inode_other node inode top type old v x is d s.there (sym (own_inode a) ∙ (sym s.block_is ∙ same))
      by (inr a) = way_other node inode top type old v x is d 0 (steps (s.bucket - 1)) (steps_way (s.bucket - 1))
          (λ z. stands_block old old top d name block offset s (own_leaf a ∙ z)) (sym (own_leaf a) ∙ (sym s.block_is ∙ same))

-- A bucket is rewritten

placed_there : (at : ℕ) (before behind : List Entry) (e : Entry) → Contains (placed at (before ++ e ∷ behind)) (record { offset = at + total_length before; entry = e })
placed_there at [] behind e =
    let same : at ≡ at + total_length [] = omega arith in
    subst (λ o. Contains (placed at (e ∷ behind)) (record { offset = o; entry = e })) same (Contains-head (record { offset = at; entry = e }) (placed (at + entry_length e) behind))
placed_there at (x ∷ before) behind e =
    let same : at + entry_length x + total_length before ≡ at + total_length (x ∷ before) = omega arith in
    subst (λ o. Contains (placed at (x ∷ (before ++ e ∷ behind))) (record { offset = o; entry = e })) same
    (Contains-tail (record { offset = at; entry = x }) (placed (at + entry_length x) (before ++ e ∷ behind)) (record { offset = at + entry_length x + total_length before; entry = e })
    (placed_there (at + entry_length x) before behind e))

live_parts : (before behind : List Entry) (e : Entry) → is_live e ≡ true → filter is_live (before ++ e ∷ behind) ≡ filter is_live before ++ e ∷ filter is_live behind
live_parts [] behind e live = ap (λ b. cond b (e ∷ filter is_live behind) (filter is_live behind)) live
live_parts (x ∷ before) behind e live = by (is_live x) (live_parts before behind e live)
  where
    by : (b : Bool) → filter is_live (before ++ e ∷ behind) ≡ filter is_live before ++ e ∷ filter is_live behind →
        cond b (x ∷ filter is_live (before ++ e ∷ behind)) (filter is_live (before ++ e ∷ behind)) ≡ cond b (x ∷ filter is_live before) (filter is_live before) ++ e ∷ filter is_live behind
    by true rest = ap (λ l. x ∷ l) rest
    by false rest = rest

-- the bytes before a record have the entries before it
module _ (bytes : List ℕ) (range : All (λ b. b < 256) bytes) (r : Record) (has : Contains (records_of bytes) r) where
  pub split : Split (entries_of bytes) 0 r
  split = split_at (entries_of bytes) 0 r has

  abbrev front : List ℕ
  front = take r.offset bytes

  abbrev before : List Entry
  before = split.before

  at_front : r.offset ≡ length (joined before)
  at_front = let h = split.there in let long = length-joined before in omega arith

  front_is : front ≡ joined before
  front_is =
      let b = format_bucket bytes range in
      let rest : List ℕ = joined (r.entry ∷ split.behind) ++ drop (end_of bytes) bytes in
      let whole : bytes ≡ joined before ++ rest =
      b.whole ∙ (ap (λ es. joined es ++ drop (end_of bytes) bytes) split.all
      ∙ (ap (λ l. l ++ drop (end_of bytes) bytes) (flat_map-append entry_bytes before (r.entry ∷ split.behind))
      ∙ append_assoc (joined before) (joined (r.entry ∷ split.behind)) (drop (end_of bytes) bytes))) in
      (λ j. take (at_front j) (whole j)) ∙ take_at (joined before) rest (length (joined before)) refl

  entries_before : entries_of front ≡ before
  entries_before =
      let b = format_bucket bytes range in
      let fits = front_fits before (r.entry ∷ split.behind) (subst (All Fits) split.all b.fits) in
      ap entries_of (front_is ∙ sym (append-nil (joined before))) ∙ (joined_read before [] fits ∙ (ap (λ l. before ++ l) (no_length [] refl) ∙ append-nil before))
    where
      front_fits : (a b : List Entry) → All Fits (a ++ b) → All Fits a
      front_fits [] b all = All-nil Fits
      front_fits (x ∷ a) b all = All-cons Fits x a (All-head Fits x (a ++ b) all) (front_fits a b (All-tail Fits x (a ++ b) all))

  -- where it stands once the dead ones before it are gone
  pub offset_then : length front - room_without front ≡ total_length (filter is_live before)
  offset_then =
      let live = ap (λ es. total_length (filter is_live es)) entries_before in
      let low = live_within before in
      let long : length front ≡ total_length before = ap length front_is ∙ length-joined before in
      omega arith

module _ (node inode top : ℕ) (type : ℕ → ℕ) (old : ℕ → List ℕ) (v : IsVolume node inode type old top) (n : ℕ) (number : n ≢ 0) (there : block_numbered old top n ≢ 0)
    (k : ℕ) (few : k ≤ leaf_count) (directory : kind_of (fields_of (old (block_numbered old top n))).mode ≡ Some kind.Directory)
    (some : 0 < end_of (bucket_of old (block_numbered old top n) k)) where
  abbrev dir : ℕ
  dir = block_numbered old top n

  abbrev m : List ℕ
  m = bucket_of old dir k

  abbrev then : ℕ → List ℕ
  then = written (rewritten_act (bucket_block old dir k) (bucket_start k) (bucket_of old dir k)) old

  w : IsPut node inode top type old v n number there (rewritten m) (rewriting_small node inode top type old v n number there k few directory some) 0 None k
  w = rewriting_put node inode top type old v n number there k few directory some

  same_act : patch_act (bucket_block old dir k) (one_patch (bucket_start k + 0) (rewritten m)) None ≡ rewritten_act (bucket_block old dir k) (bucket_start k) m
  same_act = rewriting_act node inode top type old v n number there k few directory some

  pub rewriting_numbered : (x : ℕ) → block_numbered (written (rewritten_act (bucket_block old dir k) (bucket_start k) (bucket_of old dir k)) old) top x ≡ block_numbered old top x
  rewriting_numbered x = subst (λ a. block_numbered (written a old) top x ≡ block_numbered old top x) same_act
      (put_numbered node inode top type old v n number there (rewritten m) (rewriting_small node inode top type old v n number there k few directory some) 0 None k w x)

  pub rewriting_stands : (d' : ℕ) (name' : List ℕ) (block' offset' : ℕ) → Stands old top d' name' block' offset' → block' ≢ bucket_block old (block_numbered old top n) k →
      Stands (written (rewritten_act (bucket_block old dir k) (bucket_start k) (bucket_of old dir k)) old) top d' name' block' offset'
  rewriting_stands d' name' block' offset' s' ne = subst (λ a. Stands (written a old) top d' name' block' offset') same_act
      (put_stands node inode top type old v n number there (rewritten m) (rewriting_small node inode top type old v n number there k few directory some) 0 None k w d' name' block' offset' s' ne)

  -- a live record of the bucket itself stands behind the live ones before it
  pub rewriting_own : (r : Record) → Contains (records_of (bucket_of old dir k)) r → is_live r.entry ≡ true →
      Stands (written (rewritten_act (bucket_block old dir k) (bucket_start k) (bucket_of old dir k)) old) top n r.entry.name (bucket_block old dir k)
      (bucket_start k + (length (take r.offset (bucket_of old dir k)) - room_without (take r.offset (bucket_of old dir k))))
  rewriting_own r has live =
      let range = bucket_bytes node inode top type old v n number there k few in
      let new : ℕ → List ℕ = written (patch_act (bucket_block old dir k) (one_patch (bucket_start k + 0) (rewritten m)) None) old in
      let sp = split m range r has in
      let numbered = put_numbered node inode top type old v n number there (rewritten m) (rewriting_small node inode top type old v n number there k few directory some) 0 None k w n in
      let entries : bucket_entries new dir k ≡ filter is_live sp.before ++ r.entry ∷ filter is_live sp.behind =
      rewriting_new node inode top type old v n number there k few directory some ∙ (ap (filter is_live) sp.all ∙ live_parts sp.before sp.behind r.entry live) in
      let at : ℕ = total_length (filter is_live sp.before) in
      let there' : Contains (records_of (bucket_of new dir k)) (record { offset = 0 + at; entry = r.entry }) =
      subst (λ es. Contains (placed 0 es) (record { offset = 0 + at; entry = r.entry })) (sym entries) (placed_there 0 (filter is_live sp.before) (filter is_live sp.behind) r.entry) in
      let zero : 0 + at ≡ at = omega arith in
      subst (λ a. Stands (written a old) top n r.entry.name (bucket_block old dir k) (bucket_start k + (length (take r.offset m) - room_without (take r.offset m)))) same_act (record {
        number = number;
        there = λ z. there (sym numbered ∙ z);
        directory = subst (λ x. kind_of (fields_of (new x)).mode ≡ Some kind.Directory) (sym numbered) (ap (λ g. kind_of g.mode) w.fields ∙ directory);
        bucket = k;
        few = few;
        record_of = record { offset = 0 + at; entry = r.entry };
        of = subst (λ x. Contains (records_of (bucket_of new x k)) (record { offset = 0 + at; entry = r.entry })) (sym numbered) there';
        named = refl;
        block_is = sym (λ i. if k == 0 then dir else leaf_same node inode top type old new v.typed w.keeps n (k - 1) i) ∙ ap (λ x. bucket_block new x k) (sym numbered);
        offset_is = ap (λ o. bucket_start k + o) (offset_then m range r has ∙ sym zero);
      })

-- Two patches in one block

pub patched_twice : (m : List ℕ) (first second : List Patch) → patched m (first ++ second) ≡ patched (patched m first) second
patched_twice m [] second = refl
patched_twice m (p ∷ first) second = patched_twice (put m p.offset p.bytes) first second

pub written_twice : (content : ℕ → List ℕ) (block : ℕ) (first second : List Patch) (behind behind' behind'' : Option ℕ) →
    written (patch_act block (first ++ second) behind) content ≡ written (patch_act block second behind'') (written (patch_act block first behind') content)
written_twice content block first second behind behind' behind'' = fun_ext (λ b. elim (cases_eq b block) [
  | inl is ↦
      written_here (patch_act block (first ++ second) behind) content b is
      ∙ (patched_twice (content b) first second
      ∙ (ap (λ m. patched m second) (sym (written_here (patch_act block first behind') content b is))
      ∙ sym (written_here (patch_act block second behind'') (written (patch_act block first behind') content) b is)))
  | inr ne ↦
      written_other (patch_act block (first ++ second) behind) content b ne
      ∙ (sym (written_other (patch_act block first behind') content b ne)
      ∙ sym (written_other (patch_act block second behind'') (written (patch_act block first behind') content) b ne))
])
