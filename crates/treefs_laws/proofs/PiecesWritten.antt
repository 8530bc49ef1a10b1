-- A piece of a write: bytes that stand together, in the inode or in a leaf that is there.
use Rattle.std.proofs.Common.{◌≡◌, ◌≢◌, ◌⊎◌, ℕ, suc, ◌+◌, ◌-◌, ◌/◌, ◌%◌, ◌<◌, ◌≤◌, Bool, true, false, List, [], ◌∷◌, ◌++◌, length, take, Option, None, Some, Ok, Err, refl, sym, ◌∙◌, ap, inl, inr, arith, subst, length-append, if◌then◌else◌, length-take-le, take_all}
use Rattle.std.specs.Prelude.{All, is_some, nat_lt}
use Rattle.std.proofs.lemmas.Bool.{cases_lt, le-ltb, lt-ltb, ltb-false, ne_eqb}
use Rattle.std.proofs.lemmas.List.Elements.{All-cons, All-nil, All-take}
use Rattle.xn_model.specs.Types.{Types}
use Rattle.xn_model.specs.Calls.{root_of}
use Rattle.xn_model.specs.Lives.{StoreState}
use Rattle.treefs_format.specs.Fields.{changes_patch, fields_of}
use Rattle.treefs_format.specs.Inodes.{content_patch}
use Rattle.treefs_format.specs.Leaves.{greatest_size}
use Rattle.treefs_format.specs.Paths.{leaf_count}
use Rattle.treefs_format.specs.declared.fields.Fields.{Fields}
use Rattle.treefs_model.specs.Acts.{Act, Ran, bytes_act, changes_act, one_patch, patch_act}
use Rattle.treefs_model.specs.Changes.{overwritten, rewritten, written as written_files}
use Rattle.treefs_model.specs.Files.{changed_at}
use Rattle.treefs_model.specs.Reading.{byte_of, leaf_block}
use Rattle.treefs_lookup.specs.Buckets.{bucket_block, bucket_start}
use Rattle.treefs_model.specs.declared.fault.Fault.{Fault}
use Rattle.treefs_lookup.specs.Bytes.{part_left}
use Rattle.treefs_lookup.specs.Inodes.{file_found}
use Rattle.treefs_lookup.specs.Readable.{readable}
use Rattle.treefs_lookup.specs.declared.inodes.Found.{Found}
use Rattle.treefs_edits.specs.Written.{written}
use Rattle.treefs_byte_plans.specs.Fields.{risen, size_acts, size_changes, times_now}
use Rattle.treefs_byte_plans.specs.Writes.{first_piece}
use Rattle.treefs.specs.Changed.{changed_volume}
use Rattle.treefs.specs.Writing.{Takes}
use Rattle.treefs.specs.declared.volume.Volume.{Volume}
use Rattle.treefs_edits.specs.Plans.{Does}
use Rattle.treefs_values.specs.Bytes.{bucket_at, place_in_bucket, with_put}
use Rattle.treefs_values.specs.Kinds.{kinds}
use Rattle.treefs_values.specs.Values.{KeepsBlocks}
use Rattle.treefs_values.proofs.ForCallers.{acts_read}
use Rattle.treefs_laws.specs.Kept.{files_in}
use Rattle.treefs_laws.specs.Open.{IsOpen}
use Rattle.treefs_laws.proofs.BytesOver.{few_buckets}
use Rattle.treefs_laws.proofs.FileOver.{Over, dated_open, dated_seen, fields_are, file_there, found_there, kind_is, put_open, put_seen, touched_open, touched_seen, written_some, x_there}
use Rattle.treefs_laws.proofs.Fronts.{IsFront, acts_refused, same_first}
use Rattle.treefs_laws.proofs.OverFile.{over_none, over_put}
use Rattle.treefs_laws.proofs.Planned.{ran_acts}
use Rattle.treefs_laws.proofs.StillOpen.{ran_root}
use Rattle.treefs_laws.proofs.Truncated.{written_twice}

-- The first bytes that stand together

pub taken_again : (count : ℕ) (bytes : List ℕ) → take (length (take count bytes)) bytes ≡ take count bytes
taken_again count bytes = elim (cases_lt (length bytes) count) [
  | inl less ↦ ap (λ l. take (length l) bytes) (take_all count bytes (omega arith)) ∙ (take_all (length bytes) bytes (omega arith) ∙ sym
      (take_all count bytes (omega arith)))
  | inr more ↦ ap (λ k. take k bytes) (length-take-le count bytes more)
]

pub record IsPiece (at : ℕ) (bytes : List ℕ) : Type 0 where
  pub some : 0 < length (first_piece at bytes)
  pub fits : length (first_piece at bytes) ≤ part_left at
  pub few : length (first_piece at bytes) ≤ length bytes
  pub end : at + length (first_piece at bytes) ≤ greatest_size

pub piece_is : (at : ℕ) (bytes : List ℕ) → length bytes ≢ 0 → at < greatest_size → IsPiece at bytes
piece_is at bytes some low = record {
  some = let p = parts in let l = left in elim p [ inl e ↦ omega arith | inr e ↦ positive (length bytes) (length (first_piece at bytes)) e.0 some ];
  fits = elim parts [ inl e ↦ omega arith | inr e ↦ let s = e.0 in let f = e.1 in omega arith ];
  few = elim parts [ inl e ↦ omega arith | inr e ↦ let s = e.0 in omega arith ];
  end = let l = left in elim parts [ inl e ↦ omega arith | inr e ↦ let s = e.0 in let f = e.1 in omega arith ];
}
  where
    positive : (a b : ℕ) → b ≡ a → a ≢ 0 → 0 < b
    positive a b same ne = elim (cases_lt 0 b) [ inl lt ↦ lt | inr le ↦ absurd (ne (omega arith)) ]

    left : (0 < part_left at) × (at + part_left at ≤ greatest_size)
    left = elim (cases_lt at 384) [
      | inl few ↦ let e : part_left at ≡ 384 - at = ap (λ t. if t then 384 - at else 512 - at % 512) (lt-ltb at 384 few) in (omega arith, omega arith)
      | inr many ↦ let e : part_left at ≡ 512 - at % 512 = ap (λ t. if t then 384 - at else 512 - at % 512) (le-ltb at 384 many) in (omega arith, omega arith)
    ]

    parts : ((length (first_piece at bytes) ≡ part_left at) × (part_left at ≤ length bytes)) ⊎
        ((length (first_piece at bytes) ≡ length bytes) × (length bytes ≤ part_left at))
    parts = elim (cases_lt (length bytes) (part_left at)) [
      | inl less ↦ inr (ap length (take_all (part_left at) bytes (omega arith)), omega arith)
      | inr more ↦ inl (length-take-le (part_left at) bytes more, more)
    ]

module _ (T : Types) (state : StoreState) (volume : Volume) (is_open : IsOpen T state volume) (n : ℕ) (x : Found)
    (x_is : file_found (readable state volume.tree.fs.number) volume.tree.top n ≡ Ok x) (size_few : x.fields.size ≤ greatest_size)
    (at : ℕ) (low : at < greatest_size) (zeros : (p : ℕ) → x.fields.size ≤ p → p < at → byte_of (readable state volume.tree.fs.number) x.block p ≡ 0)
    (bytes : List ℕ) (some : length bytes ≢ 0) (wide : All (λ b. b < 256) bytes) where
  abbrev fs : ℕ
  fs = volume.tree.fs.number

  abbrev top : ℕ
  top = volume.tree.top

  abbrev content : ℕ → List ℕ
  content = readable state fs

  abbrev piece : List ℕ
  piece = first_piece at bytes

  is_piece : IsPiece at bytes
  is_piece = piece_is at bytes some low

  pub size_small : (fields_of (content x.block)).size ≤ greatest_size
  size_small = subst (λ (g : Fields). g.size ≤ greatest_size) (sym (fields_are T state volume is_open n x x_is)) size_few

  pub zeros_past : (p : ℕ) → (fields_of (content x.block)).size ≤ p → p < at → byte_of content x.block p ≡ 0
  zeros_past p past lt = zeros p (subst (λ (g : Fields). g.size ≤ p) (fields_are T state volume is_open n x x_is) past) lt

  abbrev Overs : (ℕ → ℕ) → List ℕ → (ℕ → List ℕ) → Type 0
  Overs type bytes m = Over T state volume is_open n x x_is size_small at type bytes m

  -- so many bytes are taken
  abbrev pub Said : StoreState → Volume → ℕ → Type 0
  Said new volume' taken = IsOpen T new volume'
      × (written_files (files_in state volume) volume.memory.clock n at bytes taken ≡ Ok (files_in new volume')) × (0 < taken) × (taken ≤ length bytes)
      × (at + taken ≤ greatest_size)

  piece_said : (new : StoreState) (volume' : Volume) (taken : ℕ) → taken ≡ length piece → IsOpen T new volume' →
      files_in new volume' ≡ changed_at (files_in state volume) n (rewritten volume.memory.clock (λ b. overwritten b at piece)) → Said new volume' taken
  piece_said new volume' taken count opened files =
      let s = is_piece.some in let f = is_piece.few in let e = is_piece.end in (
        opened,
        written_some T state volume is_open n x x_is at bytes taken some low
            ∙ (ap (λ k. Ok (changed_at (files_in state volume) n (rewritten volume.memory.clock (λ b. overwritten b at (take k bytes))))) count
            ∙ (ap (λ l. Ok (changed_at (files_in state volume) n (rewritten volume.memory.clock (λ b. overwritten b at l))))
            (taken_again (part_left at) bytes) ∙ ap Ok (sym files))),
        omega arith,
        omega arith,
        omega arith,
      )

  -- The bytes are put
  module _ (block offset : ℕ) (block_is : bucket_block content x.block (bucket_at at) ≡ block)
      (offset_is : bucket_start (bucket_at at) + place_in_bucket at ≡ offset)
      (block_there : block ≢ 0) where
    abbrev put_there : ℕ → List ℕ
    put_there = written (patch_act block (one_patch offset piece) None) content

    at_is : at + length {A = ℕ} [] ≡ at
    at_is = omega arith

    few_buckets_there : bucket_at at ≤ leaf_count
    few_buckets_there = few_buckets at low

    pub put_over : (type : ℕ → ℕ) → kinds state fs ≡ type → Overs type piece put_there
    put_over type same =
        let v = is_open.kept.bytes in
        let f = found_there T state volume is_open n x x_is in
        let there = x_there T state volume is_open n x x_is in
        let is_kind = kind_is T state volume is_open n x x_is in
        let no_directory = (file_there T state volume is_open n x x_is).no_directory in
        let o = over_put volume.tree.node_type volume.tree.inode_type top n f.number x.block there x.kind no_directory content (sym f.block) is_kind
        size_small at
        (kinds state fs) [] content
        (over_none volume.tree.node_type volume.tree.inode_type top n f.number x.block there x.kind no_directory content (sym f.block) is_kind
        size_small at (kinds state fs) v)
        piece (All-take (λ b. b < 256) (part_left at) bytes wide) is_piece.some (subst (λ p. bucket_at p ≤ leaf_count) (sym at_is) few_buckets_there)
        (subst (λ p. length piece ≤ part_left p) (sym at_is) is_piece.fits)
        (λ z. block_there (sym block_is ∙ (ap (λ p. bucket_block content x.block (bucket_at p)) (sym at_is) ∙ z))) None in
        let block_path = ap (λ c. bucket_block content c (bucket_at (at + 0))) (sym f.block) ∙
        (ap (λ p. bucket_block content x.block (bucket_at p)) at_is ∙ block_is) in
        let offset_path = ap (λ p. bucket_start (bucket_at p) + place_in_bucket p) at_is ∙ offset_is in
        subst (λ t. Overs t piece put_there) same (subst (Overs (kinds state fs) piece)
        (λ j. written (patch_act (block_path j) (one_patch (offset_path j) piece) None) content) o)

  -- In the inode

  module _ (is_low : at < 384) where
    abbrev content_block : Act
    content_block = patch_act x.block (content_patch at piece ∷ changes_patch (size_changes (risen x.fields.size (at + length piece))
        (times_now volume.memory)) ∷ []) None

    pub content_done : (new : StoreState) (volume' : Volume) (taken : ℕ) →
        Takes T state new volume volume' n (record { starts = []; acts = λ begun. content_block ∷ [] }) (length piece) true (Ok taken) → Said new volume' taken
    content_done new volume' taken (count, does, is) =
        let ran = ran_acts T fs (content_block ∷ []) state new does in
        let keep = All-cons KeepsBlocks content_block [] refl (All-nil KeepsBlocks) in
        let read = acts_read T fs (content_block ∷ []) state new is_open.kept.store keep ran in
        let root : root_of new fs ≡ Some top = ran_root T fs (content_block ∷ []) state new is_open.kept.store keep ran ∙ is_open.root in
        let bucket : bucket_at at ≡ 0 = ap (λ t. if t then 0 else at / 512 + 1) (lt-ltb at 384 is_low) in
        let place : place_in_bucket at ≡ at = ap (λ t. if t then at else at % 512) (lt-ltb at 384 is_low) in
        let o = put_over x.block (128 + at) (ap (bucket_block content x.block) bucket) (λ j. bucket_start (bucket j) + place j)
        (x_there T state volume is_open n x x_is)
        (kinds new fs) (sym read.2) in
        let reads = read.1 ∙ (written_twice x.block (content_patch at piece) (changes_patch
        (size_changes (risen x.fields.size (at + length piece)) (times_now volume.memory)) ∷ []) content
        ∙ ap (λ (g : Fields). written (changes_act x.block (size_changes (risen g.size (at + length piece)) (times_now volume.memory) ∷ []) None)
        (written (patch_act x.block (one_patch (128 + at) piece) None) content)) (sym (fields_are T state volume is_open n x x_is))) in
        let m = written (patch_act x.block (one_patch (128 + at) piece) None) content in
        subst (λ w. Said new w taken) (sym is) (piece_said new (changed_volume volume n true) taken count
        (dated_open T state volume is_open n x x_is size_small at new read.0 root piece m o is_piece.end zeros_past reads)
        (dated_seen T state volume is_open n x x_is size_small at new read.0 root piece m o is_piece.end zeros_past reads))

  -- In a leaf

  module _ (high : 384 ≤ at) (leaf_there : leaf_block content x.block (at / 512) ≢ 0) where
    abbrev leaf : ℕ
    leaf = leaf_block content x.block (at / 512)

    abbrev first_act : Act
    first_act = bytes_act leaf (at % 512) piece None

    abbrev put_leaf : ℕ → List ℕ
    put_leaf = written first_act content

    pub leaf_over : (type : ℕ → ℕ) → kinds state fs ≡ type → Overs type piece put_leaf
    leaf_over type same =
        let bucket : bucket_at at ≡ at / 512 + 1 = ap (λ t. if t then 0 else at / 512 + 1) (le-ltb at 384 high) in
        let place : place_in_bucket at ≡ at % 512 = ap (λ t. if t then at else at % 512) (le-ltb at 384 high) in
        let some_bucket : bucket_at at ≢ 0 = λ z. absurd (omega (arith, z, bucket)) in
        let less : bucket_at at - 1 ≡ at / 512 = omega arith in
        let start : bucket_start (bucket_at at) ≡ 0 = ap (λ t. if t then 128 else 0) (ne_eqb (bucket_at at) 0 some_bucket) in
        put_over leaf (at % 512) (ap (λ t. if t then x.block else leaf_block content x.block (bucket_at at - 1)) (ne_eqb (bucket_at at) 0 some_bucket) ∙
        ap (leaf_block content x.block) less)
        (omega arith) leaf_there type same

    leaf_keep : (o : Option ℕ) → All KeepsBlocks (first_act ∷ size_acts x.block leaf o (times_now volume.memory))
    leaf_keep None = All-cons KeepsBlocks first_act [] refl (All-nil KeepsBlocks)
    leaf_keep (Some s) =
        All-cons KeepsBlocks first_act (size_acts x.block leaf (Some s) (times_now volume.memory)) refl
        (All-cons KeepsBlocks (changes_act x.block (size_changes (Some s) (times_now volume.memory) ∷ []) (Some leaf)) [] refl (All-nil KeepsBlocks))

    risen_cases : (o : Option ℕ) → risen x.fields.size (at + length piece) ≡ o → (t : Bool) → nat_lt x.fields.size (at + length piece) ≡ t → o ≡ None →
        at + length piece ≤ x.fields.size
    risen_cases o is true e none = absurd (cc (sym (ap (λ t. if t then Some (at + length piece) else None) e) ∙ (is ∙ none)))
    risen_cases o is false e none = ltb-false x.fields.size (at + length piece) e

    leaf_by : (o : Option ℕ) → risen x.fields.size (at + length piece) ≡ o → (new : StoreState) (volume' : Volume) (taken : ℕ) → taken ≡ length piece →
        Ran T fs (first_act ∷ size_acts x.block leaf o (times_now volume.memory)) state new (Ok tt) → volume' ≡ changed_volume volume n (is_some o) → Said
        new volume' taken
    leaf_by None is new volume' taken count ran v =
        let read = acts_read T fs (first_act ∷ []) state new is_open.kept.store (leaf_keep None) ran in
        let root : root_of new fs ≡ Some top = ran_root T fs (first_act ∷ []) state new is_open.kept.store (leaf_keep None) ran ∙ is_open.root in
        let o = leaf_over (kinds new fs) (sym read.2) in
        let within = subst (λ (g : Fields). at + length piece ≤ g.size) (sym (fields_are T state volume is_open n x x_is))
        (risen_cases None is (nat_lt x.fields.size (at + length piece)) refl refl) in
        subst (λ w. Said new w taken) (sym v) (piece_said new (changed_volume volume n false) taken count
        (touched_open T state volume is_open n x x_is size_small at new read.0 root piece put_leaf o read.1 within)
        (touched_seen T state volume is_open n x x_is size_small at new read.0 root piece put_leaf o read.1 within))
    leaf_by (Some s) is new volume' taken count ran v =
        let acts = first_act ∷ size_acts x.block leaf (Some s) (times_now volume.memory) in
        let read = acts_read T fs acts state new is_open.kept.store (leaf_keep (Some s)) ran in
        let root : root_of new fs ≡ Some top = ran_root T fs acts state new is_open.kept.store (leaf_keep (Some s)) ran ∙ is_open.root in
        let o = leaf_over (kinds new fs) (sym read.2) in
        let reads = read.1
        ∙ (ap (λ r. written (changes_act x.block (size_changes r (times_now volume.memory) ∷ []) None) put_leaf) (sym is)
        ∙ ap (λ (g : Fields). written (changes_act x.block (size_changes (risen g.size (at + length piece)) (times_now volume.memory) ∷ []) None) put_leaf)
        (sym (fields_are T state volume is_open n x x_is))) in
        subst (λ w. Said new w taken) (sym v) (piece_said new (changed_volume volume n true) taken count
        (dated_open T state volume is_open n x x_is size_small at new read.0 root piece put_leaf o is_piece.end zeros_past reads)
        (dated_seen T state volume is_open n x x_is size_small at new read.0 root piece put_leaf o is_piece.end zeros_past reads))

    pub leaf_done : (new : StoreState) (volume' : Volume) (taken : ℕ) → let size = risen x.fields.size (at + length piece) in
        Takes T state new volume volume' n (record { starts = []; acts = λ begun. first_act ∷ size_acts x.block leaf size (times_now volume.memory) })
        (length piece) (is_some size) (Ok taken) →
        Said new volume' taken
    leaf_done new volume' taken (count, does, v) =
        leaf_by (risen x.fields.size (at + length piece)) refl new volume' taken count
        (ran_acts T fs (first_act ∷ size_acts x.block leaf (risen x.fields.size (at + length piece)) (times_now volume.memory)) state new does) v

    -- Where one of the edits is refused

    leaf_front : (o : Option ℕ) (new : StoreState) (front : List Act) → IsFront (first_act ∷ size_acts x.block leaf o (times_now volume.memory)) front →
        Ran T fs front state new (Ok tt) → (new ≡ state) ⊎ Ran T fs (first_act ∷ []) state new (Ok tt)
    leaf_front o new [] is ran = inl ran.1
    leaf_front o new (act ∷ []) is ran =
        inr (subst (λ a. Ran T fs (a ∷ []) state new (Ok tt)) (sym (same_first first_act act (size_acts x.block leaf o (times_now volume.memory))
        (is.next ∷ is.rest) is.whole)) ran)
    leaf_front o new (act ∷ other ∷ front) is ran =
        let long = ap length is.whole in
        let parts = length-append front (is.next ∷ is.rest) in
        absurd (too_many o long parts)
      where
        too_many : (o : Option ℕ) → suc (length (size_acts x.block leaf o (times_now volume.memory))) ≡ suc (suc (length (front ++ is.next ∷ is.rest))) →
            length (front ++ is.next ∷ is.rest) ≡ length front + length (is.next ∷ is.rest) → ⊥
        too_many None long parts = absurd (omega arith)
        too_many (Some s) long parts = absurd (omega arith)

    pub leaf_refused : (new : StoreState) (fault : Fault) → let size = risen x.fields.size (at + length piece) in
        Does T fs (record { starts = []; acts = λ begun. first_act ∷ size_acts x.block leaf size (times_now volume.memory) }) state new (Err fault) →
        (new ≡ state) ⊎ (IsOpen T new volume × (files_in new volume ≡ changed_at (files_in state volume) n (with_put at piece)))
    leaf_refused new fault does =
        let size : Option ℕ = risen x.fields.size (at + length piece) in
        elim (acts_refused T fs (first_act ∷ size_acts x.block leaf size (times_now volume.memory)) state new fault does) [
          | inl same ↦ inl same
          | inr f ↦ elim (leaf_front size new f.0 f.1 f.2) [
            | inl same ↦ inl same
            | inr ran ↦
                let read = acts_read T fs (first_act ∷ []) state new is_open.kept.store (leaf_keep None) ran in
                let root : root_of new fs ≡ Some top = ran_root T fs (first_act ∷ []) state new is_open.kept.store (leaf_keep None) ran ∙ is_open.root in
                let o = leaf_over (kinds new fs) (sym read.2) in
                inr (
                  put_open T state volume is_open n x x_is size_small at new read.0 root piece put_leaf o read.1,
                  put_seen T state volume is_open n x x_is size_small at new read.0 root piece put_leaf o read.1,
                )
          ]
        ]
