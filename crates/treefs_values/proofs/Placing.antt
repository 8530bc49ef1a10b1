-- Where the record of a new name goes, and what is made of the volume once it is made there.
use Rattle.std.proofs.Common.{◌≡◌, ◌≢◌, ◌⊎◌, ℕ, ◌+◌, ◌-◌, ◌<◌, ◌≤◌, ◌^◌, Bool, true, false, List, [], length, Option, None, Some, refl, sym, ◌∙◌, ap, inl, inr, arith, subst, if◌then◌else◌}
use Rattle.std.specs.Prelude.{All, Contains, IsTrue, ◌==◌}
use Rattle.std.proofs.lemmas.Bool.{cases_eq, eq-eqb, ne_eqb, true≢false}
use Rattle.xn_model.specs.BareDisks.{zeros}
use Rattle.xn_model.specs.Types.{Types}
use Rattle.xn_model.specs.Lists.{put}
use Rattle.xn_model.specs.Lives.{StoreState}
use Rattle.treefs_format.specs.Buckets.{live_entries, rewritten, room_behind, room_without}
use Rattle.treefs_format.specs.Candidates.{candidates, name_hash}
use Rattle.treefs_format.specs.Fields.{fields_of}
use Rattle.treefs_format.specs.Inodes.{content_of, kind_of}
use Rattle.treefs_format.specs.Names.{is_name}
use Rattle.treefs_format.specs.Paths.{leaf_count, steps}
use Rattle.treefs_format.specs.Records.{Entry, Record, end_of, entries_of, records_of, total_length}
use Rattle.treefs_format.specs.declared.kind.Kind.TheVariants as kind
use Rattle.treefs_format.proofs.Made.{length-rewritten, live_within, zeros_none}
use Rattle.treefs_format.proofs.ForCallers.{ends_within}
use Rattle.treefs_model.specs.Acts.{Act, one_patch, patch_act, record_act}
use Rattle.treefs_model.specs.Files.{with_name}
use Rattle.treefs_model.specs.Reading.{block_at, bucket_of, files_of, key_in, leaf_block}
use Rattle.treefs_model.specs.Trees.{has_name}
use Rattle.treefs_lookup.specs.Buckets.{bucket_block, bucket_start}
use Rattle.treefs_lookup.specs.Readable.{readable}
use Rattle.treefs_edits.specs.Kinds.{rewritten_act}
use Rattle.treefs_edits.specs.Written.{written}
use Rattle.treefs_values.specs.Kinds.{kinds}
use Rattle.treefs_values.specs.Names.{bucket_entries}
use Rattle.treefs_values.specs.Parts.{IsChangedAt}
use Rattle.treefs_values.specs.Values.{led_to}
use Rattle.treefs_values.specs.Volumes.{IsVolume}
use Rattle.treefs_values.specs.Ways.{IsWay, SamePointers, block_numbered}
use Rattle.treefs_values.proofs.Alike.{IsAlike, bucket_same, in_leaf}
use Rattle.treefs_values.proofs.Anew.{files_anew, volume_anew}
use Rattle.treefs_values.proofs.Elsewhere.{key_stays, other_alike}
use Rattle.treefs_values.proofs.Making.{files_made, volume_made}
use Rattle.treefs_values.proofs.Named.{candidates_few}
use Rattle.treefs_values.proofs.Pending.{IsNew, New, inode_other, new_written, way_other}
use Rattle.treefs_values.proofs.Putting.{length_put}
use Rattle.treefs_values.proofs.Rewriting.{act_is, fewer, new_is, put_in, rewritten_so}
use Rattle.treefs_values.proofs.Standing.{IsKeptInode, KeepsInodes, KeepsNames}
use Rattle.treefs_values.proofs.Walks.{IsAt, IsEdit}
use Rattle.treefs_values.proofs.Ways.{leaf_same, numbered_same, steps_way, way_same}

-- The directory, in block c

pub record IsDirectoryAt (content : ℕ → List ℕ) (top d c : ℕ) (key : List ℕ) : Type 0 where
  pub number : d ≢ 0
  pub there : c ≢ 0
  pub block : block_numbered content top d ≡ c
  pub key_is : key_in content top ≡ key
  pub directory : kind_of (fields_of (content c)).mode ≡ Some kind.Directory

pub directory_kept : (old new : ℕ → List ℕ) (top d c : ℕ) (key : List ℕ) → key_in new top ≡ key_in old top → IsKeptInode old new top d → IsDirectoryAt old top d c key →
    IsDirectoryAt new top d c key × IsAlike old new c × ((l : ℕ) (os : List ℕ) → IsWay os l → block_at new c os ≡ block_at old c os)
directory_kept old new top d c key key_same k at =
    let alike = subst (IsAlike old new) at.block k.alike in (
      record {
        number = at.number;
        there = at.there;
        block = k.block ∙ at.block;
        key_is = key_same ∙ at.key_is;
        directory = ap (λ m. kind_of (fields_of m).mode) alike.own ∙ at.directory;
      },
      alike,
      λ l os way. subst (λ x. block_at new x os ≡ block_at old x os) at.block (k.ways l os way),
    )

pub directory_stays : (old new : ℕ → List ℕ) (top d c : ℕ) (key : List ℕ) → KeepsInodes old new top → IsDirectoryAt old top d c key →
    IsDirectoryAt new top d c key × IsAlike old new c × ((l : ℕ) (os : List ℕ) → IsWay os l → block_at new c os ≡ block_at old c os)
directory_stays old new top d c key keeps at =
    directory_kept old new top d c key keeps.key (keeps.inodes d at.number (λ z. at.there (sym at.block ∙ z))) at

pub directory_names : (old new : ℕ → List ℕ) (top d c : ℕ) (key : List ℕ) → KeepsNames old new top d → IsDirectoryAt old top d c key →
    IsDirectoryAt new top d c key × ((j : ℕ) → bucket_entries new c j ≡ bucket_entries old c j)
directory_names old new top d c key keeps at =
    let fields = subst (λ c. fields_of (new c) ≡ fields_of (old c)) at.block keeps.fields in (
      record {
        number = at.number;
        there = at.there;
        block = keeps.block ∙ at.block;
        key_is = keeps.key ∙ at.key_is;
        directory = ap (λ g. kind_of g.mode) fields ∙ at.directory;
      },
      λ j. subst (λ c. bucket_entries new c j ≡ bucket_entries old c j) at.block (keeps.entries j),
    )

-- Places

abbrev pub AreFree : (ℕ → List ℕ) → List ℕ → ℕ → List ℕ → Type 0
AreFree content key c name = (j : ℕ) → Contains (candidates (name_hash key name)) j → has_name (bucket_entries content c j) name ≡ false

-- behind the records of a bucket
pub record IsBehind (content : ℕ → List ℕ) (key : List ℕ) (c : ℕ) (name : List ℕ) (block offset : ℕ) : Type 0 where
  pub bucket : ℕ
  pub candidate : Contains (candidates (name_hash key name)) bucket
  pub block_is : block ≡ bucket_block content c bucket
  pub offset_is : offset ≡ bucket_start bucket + end_of (bucket_of content c bucket)
  pub room : 5 + length name ≤ room_behind (bucket_of content c bucket)
  pub none : AreFree content key c name

-- where a record of the name stands
pub record IsOwn (content : ℕ → List ℕ) (key : List ℕ) (c : ℕ) (name : List ℕ) (block offset : ℕ) : Type 0 where
  pub bucket : ℕ
  pub candidate : Contains (candidates (name_hash key name)) bucket
  pub record_of : Record
  pub there : Contains (records_of (bucket_of content c bucket)) record_of
  pub named : record_of.entry.name ≡ name
  pub block_is : block ≡ bucket_block content c bucket
  pub offset_is : offset ≡ bucket_start bucket + record_of.offset

abbrev pub IsPlace : (ℕ → List ℕ) → List ℕ → ℕ → List ℕ → ℕ → ℕ → Type 0
IsPlace content key c name block offset = IsBehind content key c name block offset ⊎ IsOwn content key c name block offset

pub free_stays : (old new : ℕ → List ℕ) (key : List ℕ) (c : ℕ) (name : List ℕ) → ((j : ℕ) → bucket_entries new c j ≡ bucket_entries old c j) →
    AreFree old key c name → AreFree new key c name
free_stays old new key c name same free j has = ap (λ es. has_name es name) (same j) ∙ free j has

module _ (old new : ℕ → List ℕ) (key : List ℕ) (c : ℕ) (name : List ℕ) (block offset : ℕ) (a : IsAlike old new c) where
  bucket_stays : (k : ℕ) → bucket_of new c k ≡ bucket_of old c k
  bucket_stays k = bucket_same old new c a.leaves a.bytes k (ap content_of a.own)

  block_stays : (k : ℕ) → bucket_block new c k ≡ bucket_block old c k
  block_stays k = (λ j. if k == 0 then c else a.leaves (k - 1) j)

  pub place_stays : IsPlace old key c name block offset → IsPlace new key c name block offset
  place_stays (inl p) = inl (record {
    bucket = p.bucket;
    candidate = p.candidate;
    block_is = p.block_is ∙ sym (block_stays p.bucket);
    offset_is = p.offset_is ∙ sym (ap (λ m. bucket_start p.bucket + end_of m) (bucket_stays p.bucket));
    room = subst (λ m. 5 + length name ≤ room_behind m) (sym (bucket_stays p.bucket)) p.room;
    none = λ j has. ap (λ m. has_name (entries_of m) name) (bucket_stays j) ∙ p.none j has;
  })
  place_stays (inr p) = inr (record {
    bucket = p.bucket;
    candidate = p.candidate;
    record_of = p.record_of;
    there = subst (λ m. Contains (records_of m) p.record_of) (sym (bucket_stays p.bucket)) p.there;
    named = p.named;
    block_is = p.block_is ∙ sym (block_stays p.bucket);
    offset_is = p.offset_is;
  })

-- The record is made there

module _ (node inode top : ℕ) (type : ℕ → ℕ) (content : ℕ → List ℕ) (v : IsVolume node inode type content top) (d c : ℕ) (key : List ℕ)
    (at : IsDirectoryAt content top d c key) (name : List ℕ) (number : ℕ) (short : number < 2 ^ 32) (named : IsTrue (is_name name)) (range : All (λ b. b < 256) name)
    (long : length name < 256) (behind : Option ℕ) (block offset : ℕ) where
  abbrev in_block : ℕ
  in_block = block_numbered content top d

  abbrev Said : Act → Type 0
  Said act = IsVolume node inode type (written act content) top × (files_of (written act content) top ≡ with_name (files_of content top) d name (led_to number))

  abbrev e : Entry
  e = record { number = number; name = name }

  is_some_block : in_block ≢ 0
  is_some_block z = at.there (sym at.block ∙ z)

  is_one : kind_of (fields_of (content in_block)).mode ≡ Some kind.Directory
  is_one = subst (λ x. kind_of (fields_of (content x)).mode ≡ Some kind.Directory) (sym at.block) at.directory

  few_for : (k : ℕ) → Contains (candidates (name_hash (key_in content top) name)) k → k ≤ leaf_count
  few_for k has = candidates_few (name_hash (key_in content top) name) k has

  by_place : IsPlace content (key_in content top) in_block name block offset → Said (record_act block offset e behind)
  by_place (inl p) = subst Said (λ j. record_act (sym p.block_is j) (sym p.offset_is j) e behind) (
    volume_made node inode top type content v d at.number is_some_block p.bucket (few_for p.bucket p.candidate) e short named range long p.room behind is_one p.candidate p.none,
    files_made node inode top type content v d at.number is_some_block p.bucket (few_for p.bucket p.candidate) e short named range long p.room behind is_one p.candidate p.none,
  )
  by_place (inr p) =
      subst Said (λ j. record_act (sym p.block_is j) (sym p.offset_is j) (record { number = number; name = p.named j }) behind) (
        volume_anew node inode top type content v d at.number is_some_block p.bucket (few_for p.bucket p.candidate) p.record_of p.there number behind short is_one,
        files_anew node inode top type content v d at.number is_some_block p.bucket (few_for p.bucket p.candidate) p.record_of p.there number behind short is_one
            ∙ ap (λ x. with_name (files_of content top) d x (led_to number)) p.named,
      )

  pub placed_so : IsPlace content key c name block offset →
      IsVolume node inode type (written (record_act block offset (record { number = number; name = name }) behind) content) top
      × (files_of (written (record_act block offset (record { number = number; name = name }) behind) content) top ≡ with_name (files_of content top) d name (led_to number))
  placed_so place = by_place (subst (λ k. IsPlace content k in_block name block offset) (sym at.key_is) (subst (λ x. IsPlace content key x name block offset) (sym at.block) place))

-- in a state of the store

module _ (T : Types) (fs node inode top : ℕ) (old : StoreState) (here : IsAt T fs node inode top old) (d c : ℕ) (key : List ℕ)
    (at : IsDirectoryAt (readable old fs) top d c key) where
  abbrev content : ℕ → List ℕ
  content = readable old fs

  abbrev c' : ℕ
  c' = block_numbered content top d

  v : IsVolume node inode (kinds old fs) content top
  v = here.volume

  some : c' ≢ 0
  some z = at.there (sym at.block ∙ z)

  is_directory : kind_of (fields_of (content c')).mode ≡ Some kind.Directory
  is_directory = subst (λ x. kind_of (fields_of (content x)).mode ≡ Some kind.Directory) (sym at.block) at.directory

  few_of : (name : List ℕ) (k : ℕ) → Contains (candidates (name_hash key name)) k → k ≤ leaf_count
  few_of name k has = candidates_few (name_hash key name) k has

  module _ (new : StoreState) (name : List ℕ) (number : ℕ) (short : number < 2 ^ 32) (named : IsTrue (is_name name)) (range : All (λ b. b < 256) name)
      (long : length name < 256) (behind : Option ℕ) (block offset : ℕ) (place : IsPlace (readable old fs) key c name block offset)
      (edit : IsEdit T fs (record_act block offset (record { number = number; name = name }) behind) old new) where
    abbrev made_act : Act
    made_act = record_act block offset (record { number = number; name = name }) behind

    said : IsVolume node inode (kinds old fs) (written made_act content) top × (files_of (written made_act content) top ≡ with_name (files_of content top) d name (led_to number))
    said = placed_so node inode top (kinds old fs) content v d c key at name number short named range long behind block offset place

    pub placed_here : IsAt T fs node inode top new
    placed_here = record {
      store = edit.store;
      root = edit.root ∙ here.root;
      volume = subst (λ t. IsVolume node inode t (readable new fs) top) (sym edit.types) (subst (λ m. IsVolume node inode (kinds old fs) m top) (sym edit.reads) said.0);
    }

    pub placed_files : files_of (readable new fs) top ≡ with_name (files_of content top) d name (led_to number)
    placed_files = ap (λ m. files_of m top) edit.reads ∙ said.1

  -- A bucket is rewritten

  module _ (new : StoreState) (k : ℕ) (few : k ≤ leaf_count) (full : 0 < end_of (bucket_of (readable old fs) c k))
      (edit : IsEdit T fs (rewritten_act (bucket_block (readable old fs) c k) (bucket_start k) (bucket_of (readable old fs) c k)) old new) where
    full' : 0 < end_of (bucket_of content c' k)
    full' = subst (λ x. 0 < end_of (bucket_of content x k)) (sym at.block) full

    abbrev act : Act
    act = rewritten_act (bucket_block content c' k) (bucket_start k) (bucket_of content c' k)

    reads : readable new fs ≡ written act content
    reads = edit.reads ∙ ap (λ x. written (rewritten_act (bucket_block content x k) (bucket_start k) (bucket_of content x k)) content) (sym at.block)

    abbrev Whole : Type 0
    Whole = IsVolume node inode (kinds old fs) (readable new fs) top × (files_of (readable new fs) top ≡ files_of content top)

    whole : Whole
    whole =
        let r = rewritten_so node inode top (kinds old fs) content v d at.number some k few is_directory full' in
        (subst (λ m. IsVolume node inode (kinds old fs) m top) (sym reads) r.0, ap (λ m. files_of m top) reads ∙ r.1)

    pub rewritten_here : IsAt T fs node inode top new
    rewritten_here = record {
      store = edit.store;
      root = edit.root ∙ here.root;
      volume = subst (λ t. IsVolume node inode t (readable new fs) top) (sym edit.types) whole.0;
    }

    pub rewritten_files : files_of (readable new fs) top ≡ files_of content top
    rewritten_files = whole.1

    -- as the bucket's bytes are put
    abbrev bytes : List ℕ
    bytes = rewritten (bucket_of content c' k)

    reads' : readable new fs ≡ written (patch_act (bucket_block content c' k) (one_patch (bucket_start k + 0) bytes) None) content
    reads' = reads ∙ ap (λ a. written a content) (sym (act_is node inode top (kinds old fs) content v d at.number some k few is_directory full'))

    keeps : SamePointers node inode (kinds old fs) content (readable new fs)
    keeps = subst (SamePointers node inode (kinds old fs) content) (sym reads') (put_in node inode top (kinds old fs) content v d at.number some k few is_directory full').keeps

    pub rewritten_points : SamePointers node inode (kinds old fs) content (readable new fs)
    rewritten_points = keeps

    changed : IsChangedAt (bucket_block content c' k) content (readable new fs)
    changed = subst (IsChangedAt (bucket_block content c' k) content) (sym reads') (put_in node inode top (kinds old fs) content v d at.number some k few is_directory full').changed

    pub rewritten_changed : IsChangedAt (bucket_block content c k) content (readable new fs)
    rewritten_changed = subst (λ x. IsChangedAt (bucket_block content x k) content (readable new fs)) at.block changed

    pub rewritten_some : bucket_block content c k ≢ 0
    rewritten_some z = (put_in node inode top (kinds old fs) content v d at.number some k few is_directory full').some
        (ap (λ x. bucket_block content x k) at.block ∙ z)

    pub rewritten_directory : IsDirectoryAt (readable new fs) top d c key
    rewritten_directory =
        let p = put_in node inode top (kinds old fs) content v d at.number some k few is_directory full' in
        let fields : fields_of (readable new fs c') ≡ fields_of (content c') = subst (λ m. fields_of (m c') ≡ fields_of (content c')) (sym reads') p.fields in
        record {
          number = at.number;
          there = at.there;
          block = numbered_same node inode top (kinds old fs) content (readable new fs) v.typed keeps d ∙ at.block;
          key_is = key_stays node inode top (kinds old fs) content (readable new fs) v.types.0 v.typed v.apart keeps d (bucket_block content c' k) at.number p.some p.part changed v.root
              ∙ at.key_is;
          directory = subst (λ x. kind_of (fields_of (readable new fs x)).mode ≡ Some kind.Directory) at.block (ap (λ g. kind_of g.mode) fields ∙ is_directory);
        }

    pub rewritten_ways : (l : ℕ) (os : List ℕ) → IsWay os l → block_at (readable new fs) top os ≡ block_at content top os
    rewritten_ways l os way = way_same node inode top (kinds old fs) content (readable new fs) v.typed keeps 0 l os way

    pub rewritten_inode : (m : ℕ) → m ≢ d → m ≢ 0 → block_numbered (readable old fs) top m ≢ 0 → IsKeptInode (readable old fs) (readable new fs) top m
    rewritten_inode m ne m_some there =
        let p = put_in node inode top (kinds old fs) content v d at.number some k few is_directory full' in
        record {
          block = numbered_same node inode top (kinds old fs) content (readable new fs) v.typed keeps m;
          alike = other_alike node inode top (kinds old fs) content (readable new fs) v.types.0 v.typed v.apart keeps d (bucket_block content c' k) at.number p.some p.part changed m ne
              m_some there;
          ways = λ l os way. way_same node inode top (kinds old fs) content (readable new fs) v.typed keeps m l os way;
        }

    pub rewritten_keeps : (x : New) → IsNew node inode (kinds old fs) content top x → IsNew node inode (kinds new fs) (readable new fs) top x
    rewritten_keeps x is = subst (λ t. IsNew node inode t (readable new fs) top x) (sym edit.types)
        (new_written node inode top (kinds old fs) content (readable new fs) x is (bucket_block content c' k) (λ same. apart_of (cases_eq k 0) (sym same)) changed keeps)
      where
        apart_of : (k ≡ 0) ⊎ (k ≢ 0) → bucket_block content c' k ≢ x.block
        apart_of (inl z) same =
            inode_other node inode top (kinds old fs) content v x is d some (sym (ap (λ t. if t then c' else leaf_block content c' (k - 1)) (eq-eqb k 0 z)) ∙ same)
        apart_of (inr other) same =
            let p = put_in node inode top (kinds old fs) content v d at.number some k few is_directory full' in
            let is_leaf : bucket_block content c' k ≡ leaf_block content c' (k - 1) = ap (λ t. if t then c' else leaf_block content c' (k - 1)) (ne_eqb k 0 other) in
            way_other node inode top (kinds old fs) content v x is d 0 (steps (k - 1)) (steps_way (k - 1)) (λ z. p.some (is_leaf ∙ z)) (sym is_leaf ∙ same)

    fewer_names : (j : ℕ) (name : List ℕ) → j ≤ leaf_count → has_name (bucket_entries content c j) name ≡ false → has_name (bucket_entries (readable new fs) c j) name ≡ false
    fewer_names j name few' lacks = by (has_name (bucket_entries (readable new fs) c j) name) refl
      where
        by : (b : Bool) → has_name (bucket_entries (readable new fs) c j) name ≡ b → has_name (bucket_entries (readable new fs) c j) name ≡ false
        by true h =
            let there : IsTrue (has_name (bucket_entries content c' j) name) =
            fewer node inode top (kinds old fs) content v d at.number some k few is_directory full' j name few'
            (subst (λ m. IsTrue (has_name (bucket_entries m c' j) name)) reads' (subst (λ x. IsTrue (has_name (bucket_entries (readable new fs) x j) name)) (sym at.block) h)) in
            absurd (true≢false (sym (subst (λ x. IsTrue (has_name (bucket_entries content x j) name)) at.block there) ∙ lacks))
        by false h = h

    module _ (name : List ℕ) (candidate : Contains (candidates (name_hash key name)) k) (fits : 5 + length name ≤ room_without (bucket_of (readable old fs) c k))
        (free : AreFree (readable old fs) key c name) where
      bucket_is : bucket_of (readable new fs) c k ≡ put (bucket_of content c k) 0 (rewritten (bucket_of content c k))
      bucket_is = subst (λ x. bucket_of (readable new fs) x k ≡ put (bucket_of content x k) 0 (rewritten (bucket_of content x k))) at.block
          (subst (λ m. bucket_of m c' k ≡ put (bucket_of content c' k) 0 bytes) (sym reads') (put_in node inode top (kinds old fs) content v d at.number some k few is_directory full').bucket)

      live_now : entries_of (bucket_of (readable new fs) c k) ≡ live_entries (bucket_of content c k)
      live_now = subst (λ x. entries_of (bucket_of (readable new fs) x k) ≡ live_entries (bucket_of content x k)) at.block
          (subst (λ m. entries_of (bucket_of m c' k) ≡ live_entries (bucket_of content c' k)) (sym reads') (new_is node inode top (kinds old fs) content v d at.number some k few is_directory full'))

      same_long : length (bucket_of (readable new fs) c k) ≡ length (bucket_of content c k)
      same_long = ap length bucket_is ∙ length_put (bucket_of content c k) (rewritten (bucket_of content c k)) 0
          (let l = length-rewritten (bucket_of content c k) in let w = ends_within (bucket_of content c k) in omega arith)

      pub rewritten_behind : IsBehind (readable new fs) key c name (bucket_block (readable old fs) c k)
          (bucket_start k + (length (bucket_of (readable old fs) c k) - room_without (bucket_of (readable old fs) c k)))
      rewritten_behind =
          let live : ℕ = total_length (live_entries (bucket_of content c k)) in
          let ends : end_of (bucket_of (readable new fs) c k) ≡ live = ap total_length live_now in
          let low : live ≤ end_of (bucket_of content c k) = live_within (entries_of (bucket_of content c k)) in
          let within = ends_within (bucket_of content c k) in
          let long = same_long in
          let room : room_behind (bucket_of (readable new fs) c k) ≡ room_without (bucket_of content c k) = (λ j. long j - ends j) in
          let end : length (bucket_of content c k) - (length (bucket_of content c k) - live) ≡ live = omega arith in
          record {
            bucket = k;
            candidate = candidate;
            block_is = sym (λ j. if k == 0 then c else leaves_stay (k - 1) j);
            offset_is = ap (λ x. bucket_start k + x) (end ∙ sym ends);
            room = subst (λ x. 5 + length name ≤ x) (sym room) fits;
            none = λ j has. fewer_names j name (few_of name j has) (free j has);
          }
        where
          leaves_stay : (i : ℕ) → leaf_block (readable new fs) c i ≡ leaf_block content c i
          leaves_stay i = subst (λ x. leaf_block (readable new fs) x i ≡ leaf_block content x i) at.block
              (leaf_same node inode top (kinds old fs) content (readable new fs) v.typed keeps d i)

  -- A leaf of zeros came to be there

  pub made_behind : (name : List ℕ) (leaf b : ℕ) → Contains (candidates (name_hash key name)) (leaf + 1) → length name < 256 → b ≡ leaf_block (readable old fs) c leaf → b ≢ 0 →
      readable old fs b ≡ zeros 512 → AreFree (readable old fs) key c name → IsBehind (readable old fs) key c name b 0
  made_behind name leaf b candidate long b_is b_some bytes free =
      let k : ℕ = leaf + 1 in
      let other : k ≢ 0 = λ z. absurd (omega (arith, z)) in
      let place : k - 1 ≡ leaf = omega arith in
      let block : bucket_block content c k ≡ b = ap (λ t. if t then c else leaf_block content c (k - 1)) (ne_eqb k 0 other) ∙ (ap (leaf_block content c) place ∙ sym b_is) in
      let here' : leaf_block content c (k - 1) ≡ b = ap (leaf_block content c) place ∙ sym b_is in
      let bucket : bucket_of content c k ≡ zeros 512 =
      in_leaf content c k other ∙ (ap (λ x. if x == 0 then [] else content x) here' ∙ (ap (λ t. if t then [] else content b) (ne_eqb b 0 b_some) ∙ bytes)) in
      let start : bucket_start k ≡ 0 = ap (λ t. if t then 128 else 0) (ne_eqb k 0 other) in
      let ends : end_of (bucket_of content c k) ≡ 0 = ap end_of bucket ∙ ap total_length (zeros_none 512) in
      let all : length (bucket_of content c k) ≡ 512 = ap length bucket in
      record {
        bucket = k;
        candidate = candidate;
        block_is = sym block;
        offset_is = let z : 0 ≡ bucket_start k + end_of (bucket_of content c k) = omega arith in z;
        room = let r : 5 + length name ≤ length (bucket_of content c k) - end_of (bucket_of content c k) = omega arith in r;
        none = free;
      }
