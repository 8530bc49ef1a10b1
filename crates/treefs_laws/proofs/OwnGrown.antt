-- Bytes are written behind those of an inode that was begun: in the inode, or in a leaf that is there.
use Rattle.std.proofs.Common.{◌≡◌, ◌≢◌, ℕ, ◌+◌, ◌-◌, ◌/◌, ◌%◌, ◌<◌, ◌≤◌, List, [], ◌∷◌, ◌++◌, length, take, replicate, Option, None, Some, Ok, refl, sym, ◌∙◌, ap, arith, subst, length-append, append-nil, take_all, if◌then◌else◌}
use Rattle.std.specs.Prelude.{All, ◌==◌}
use Rattle.std.proofs.lemmas.Bool.{le-ltb, lt-ltb, ne_eqb}
use Rattle.std.proofs.lemmas.List.{drop_all}
use Rattle.std.proofs.lemmas.List.Elements.{All-cons, All-nil, All-take}
use Rattle.xn_model.specs.Calls.{patched}
use Rattle.xn_model.specs.Root.{word_at}
use Rattle.xn_model.specs.Types.{Types}
use Rattle.xn_model.specs.Lives.{StoreState}
use Rattle.treefs_format.specs.Fields.{changes_patch, fields_of}
use Rattle.treefs_format.specs.Inodes.{content_patch}
use Rattle.treefs_format.specs.Leaves.{greatest_size}
use Rattle.treefs_format.specs.Paths.{leaf_count, steps}
use Rattle.treefs_model.specs.Acts.{Act, bytes_act, changes_act, one_patch, patch_act}
use Rattle.treefs_model.specs.Changes.{overwritten, rewritten, with_bytes}
use Rattle.treefs_model.specs.Files.{Content, Directory, File, Inode, SymbolicLink, bytes_in, changed_in}
use Rattle.treefs_model.specs.Reading.{byte_of, bytes_of, files_of, leaf_block}
use Rattle.treefs_lookup.specs.Buckets.{bucket_block, bucket_start}
use Rattle.treefs_lookup.specs.Bytes.{part_left}
use Rattle.treefs_lookup.specs.Readable.{readable}
use Rattle.treefs_edits.specs.Plans.{Does}
use Rattle.treefs_edits.specs.Written.{all_written, written}
use Rattle.treefs_edits.specs.declared.times.Times.{Times}
use Rattle.treefs_byte_plans.specs.Fields.{risen, size_acts, size_changes, times_now}
use Rattle.treefs_byte_plans.specs.Writes.{first_piece}
use Rattle.treefs.specs.declared.volume.Volume.{Volume}
use Rattle.treefs_values.specs.Bytes.{bucket_at, place_in_bucket}
use Rattle.treefs_values.specs.Kinds.{kinds}
use Rattle.treefs_values.specs.Values.{KeepsBlocks}
use Rattle.treefs_values.specs.Ways.{block_numbered}
use Rattle.treefs_values.proofs.ForCallers.{acts_read}
use Rattle.treefs_laws.specs.Begun.{IsBegun}
use Rattle.treefs_laws.specs.Open.{IsOpen}
use Rattle.treefs_laws.specs.Unnamed.{IsUnnamed}
use Rattle.treefs_laws.proofs.BytesOver.{few_buckets}
use Rattle.treefs_laws.proofs.OverFile.{dated, dated_files, over_put}
use Rattle.treefs_laws.proofs.OwnSaid.{Over, aside, begun_then, c_other, c_there, content, inode, k, node, number_is, one, over_first, own, own_file, own_said, own_same, own_size, own_small}
use Rattle.treefs_laws.proofs.OwnVolume.{other_same, own_root, own_type, own_way, written_alike}
use Rattle.treefs_laws.proofs.PiecesWritten.{IsPiece, piece_is, taken_again}
use Rattle.treefs_laws.proofs.Planned.{ran_acts, same_done}
use Rattle.treefs_laws.proofs.Truncated.{written_twice}
use Rattle.treefs_laws.proofs.WaysApart.{steps_way}

-- Bytes behind others

appended : (bytes more : List ℕ) → overwritten bytes (length bytes) more ≡ bytes ++ more
appended bytes more =
    let none : length bytes - length bytes ≡ 0 = omega arith in
    (λ j. (take_all (length bytes) bytes (omega arith) j ++ replicate (none j) 0) ++ more ++ drop_all (length bytes + length more) bytes (omega arith) j)
    ∙ (append-nil ((bytes ++ []) ++ more) ∙ ap (λ l. l ++ more) (append-nil bytes))

more_bytes : (x : Content) (bytes now more : List ℕ) → bytes_in x ≡ Ok bytes → now ≡ bytes ++ more →
    (with_bytes (λ old. now) x ≡ with_bytes (λ old. old ++ more) x) × (bytes_in (with_bytes (λ old. old ++ more) x) ≡ Ok (bytes ++ more))
more_bytes (File old) bytes now more is later =
    let same : old ≡ bytes = same_done old bytes is in
    (ap File (later ∙ ap (λ l. l ++ more) (sym same)), ap (λ l. Ok (l ++ more)) same)
more_bytes (SymbolicLink old) bytes now more is later =
    let same : old ≡ bytes = same_done old bytes is in
    (ap SymbolicLink (later ∙ ap (λ l. l ++ more) (sym same)), ap (λ l. Ok (l ++ more)) same)
more_bytes (Directory parent names) bytes now more is later = absurd (cc is)

module _ (T : Types) (state : StoreState) (volume : Volume) (is_open : IsOpen T state volume) (c : ℕ) (inode_now : Inode)
    (begun : IsBegun state volume c inode_now) where
  abbrev at : ℕ
  at = length begun.bytes

  abbrev Overs : (ℕ → ℕ) → List ℕ → (ℕ → List ℕ) → Type 0
  Overs type piece m = Over T state volume is_open c inode_now begun at type piece m

  abbrev own_m : ℕ → List ℕ
  own_m = own T state volume is_open c inode_now begun

  abbrev m0 : ℕ → List ℕ
  m0 = content T state volume is_open c inode_now begun

  abbrev own_fs : ℕ
  own_fs = volume.tree.fs.number

  abbrev types : ℕ → ℕ
  types = own_type volume.tree.node_type volume.tree.inode_type volume.tree.top c (kinds state own_fs)

  abbrev times : Times
  times = times_now volume.memory

  abbrev pub grown : List ℕ → Inode
  grown piece = rewritten volume.memory.clock (λ old. old ++ piece) inode_now

  module _ (type : ℕ → ℕ) (piece : List ℕ) (m : ℕ → List ℕ) (o : Overs type piece m) (few : at + length piece ≤ greatest_size) where
    pub zeros : (p : ℕ) → (fields_of (own_m c)).size ≤ p → p < at → byte_of own_m c p ≡ 0
    zeros p past lt = let s = own_size T state volume is_open c inode_now begun in absurd (omega arith)

    abbrev pub later : ℕ → List ℕ
    later = dated (node T state volume is_open c inode_now begun) (inode T state volume is_open c inode_now begun) own_root 1
        (one T state volume is_open c inode_now begun) c (c_there T state volume is_open c inode_now begun)
        (k T state volume is_open c inode_now begun) (own_said T state volume is_open c inode_now begun).no_directory own_m
        (number_is T state volume is_open c inode_now begun) (own_said T state volume is_open c inode_now begun).kind_is
        (own_small T state volume is_open c inode_now begun) at type piece m o volume.memory.clock is_open.kept.session.clock few zeros

    number_later : block_numbered later own_root 1 ≡ c
    number_later =
        ap (λ t. if own_root == 0 then 0 else word_at (if t then patched (m own_root)
        (changes_act c (size_changes (risen (fields_of (own_m c)).size (at + length piece)) times ∷ []) None).edit.patches else m own_root) 48)
        (ne_eqb own_root c (λ e. c_other T state volume is_open c inode_now begun (sym e))) ∙ o.block

    bytes_then : (with_bytes (λ old. overwritten (bytes_of own_m c) at piece) inode_now.content ≡ with_bytes (λ old. old ++ piece) inode_now.content)
        × (bytes_in (with_bytes (λ old. old ++ piece) inode_now.content) ≡ Ok (begun.bytes ++ piece))
    bytes_then = more_bytes inode_now.content begun.bytes (overwritten (bytes_of own_m c) at piece) piece begun.bytes_are
        (ap (λ l. overwritten l at piece) (own_said T state volume is_open c inode_now begun).bytes_same ∙ appended begun.bytes piece)

    file_later : files_of later own_root 1 ≡ Some (grown piece)
    file_later =
        ap (λ f. f 1) (dated_files (node T state volume is_open c inode_now begun) (inode T state volume is_open c inode_now begun) own_root 1
        (one T state volume is_open c inode_now begun) c (c_there T state volume is_open c inode_now begun)
        (k T state volume is_open c inode_now begun) (own_said T state volume is_open c inode_now begun).no_directory own_m
        (number_is T state volume is_open c inode_now begun) (own_said T state volume is_open c inode_now begun).kind_is
        (own_small T state volume is_open c inode_now begun) at type piece m o volume.memory.clock is_open.kept.session.clock few zeros)
        ∙ (ap (changed_in (λ x. record x {
          mtime = volume.memory.clock;
          ctime = volume.memory.clock;
          content = with_bytes (λ old. overwritten (bytes_of own_m c) at piece) x.content;
        })) (own_file T state volume is_open c inode_now begun)
        ∙ ap (λ y. Some (record inode_now { mtime = volume.memory.clock; ctime = volume.memory.clock; content = y })) bytes_then.0)

    pub grown_then : (new : StoreState) → IsOpen T new volume → IsUnnamed new volume c → ((x : ℕ) → x ≢ own_root → later x ≡ readable new own_fs x) →
        IsBegun new volume c (grown piece)
    grown_then new open_new unnamed same =
        begun_then T state volume is_open c inode_now begun new open_new unnamed later same number_later (grown piece) file_later (begun.bytes ++ piece)
        bytes_then.1 (let l = length-append begun.bytes piece in omega arith)

  -- A piece

  module _ (bytes : List ℕ) (some : length bytes ≢ 0) (wide : All (λ b. b < 256) bytes) (low : at < greatest_size) where
    abbrev piece : List ℕ
    piece = first_piece at bytes

    is_piece : IsPiece at bytes
    is_piece = piece_is at bytes some low

    module _ (block offset : ℕ) (block_is : bucket_block own_m c (bucket_at at) ≡ block)
        (offset_is : bucket_start (bucket_at at) + place_in_bucket at ≡ offset) (block_there : block ≢ 0) where
      abbrev put_there : ℕ → List ℕ
      put_there = written (patch_act block (one_patch offset piece) None) own_m

      at_is : at + length {A = ℕ} [] ≡ at
      at_is = omega arith

      few_there : bucket_at at ≤ leaf_count
      few_there = few_buckets at low

      put_over : Overs types piece put_there
      put_over =
          let o = over_put (node T state volume is_open c inode_now begun) (inode T state volume is_open c inode_now begun) own_root 1
          (one T state volume is_open c inode_now begun) c (c_there T state volume is_open c inode_now begun)
          (k T state volume is_open c inode_now begun) (own_said T state volume is_open c inode_now begun).no_directory own_m
          (number_is T state volume is_open c inode_now begun) (own_said T state volume is_open c inode_now begun).kind_is
          (own_small T state volume is_open c inode_now begun) at types [] own_m (over_first T state volume is_open c inode_now begun at)
          piece (All-take (λ b. b < 256) (part_left at) bytes wide) is_piece.some (subst (λ p. bucket_at p ≤ leaf_count) (sym at_is) few_there)
          (subst (λ p. length piece ≤ part_left p) (sym at_is) is_piece.fits)
          (λ z. block_there (sym block_is ∙ (ap (λ p. bucket_block own_m c (bucket_at p)) (sym at_is) ∙ z))) None in
          let block_path = ap (λ b. bucket_block own_m b (bucket_at (at + 0))) (number_is T state volume is_open c inode_now begun) ∙
          (ap (λ p. bucket_block own_m c (bucket_at p)) at_is ∙ block_is) in
          let offset_path = ap (λ p. bucket_start (bucket_at p) + place_in_bucket p) at_is ∙ offset_is in
          subst (Overs types piece) (λ j. written (patch_act (block_path j) (one_patch (offset_path j) piece) None) own_m) o

    -- the size and the times as they are planned
    risen_same : (s : ℕ) → s ≡ (fields_of (m0 c)).size → risen s (at + length piece) ≡ risen (fields_of (own_m c)).size (at + length piece)
    risen_same s is = ap (λ x. risen x (at + length piece)) (is ∙ ap (λ l. (fields_of l).size) (sym (own_same T state volume is_open c inode_now begun)))

    other : (x : ℕ) → x ≢ own_root → own_m x ≡ m0 x
    other = other_same volume.tree.node_type volume.tree.inode_type volume.tree.top c (kinds state own_fs) m0
        (aside T state volume is_open c inode_now begun) begun.within

    abbrev pub Said : StoreState → ℕ → Type 0
    Said new taken = (0 < taken) × (taken ≤ length bytes) × (at + taken ≤ greatest_size) × IsBegun new volume c (grown (take taken bytes))

    piece_said : (new : StoreState) (taken : ℕ) → taken ≡ length piece → IsBegun new volume c (grown piece) → Said new taken
    piece_said new taken count then_begun =
        let s = is_piece.some in
        let f = is_piece.few in
        let e = is_piece.end in (
          omega arith,
          omega arith,
          omega arith,
          subst (λ l. IsBegun new volume c (grown l)) (sym (ap (λ n. take n bytes) count ∙ taken_again (part_left at) bytes)) then_begun,
        )

    -- In the inode

    module _ (is_low : at < 384) (size : ℕ) (size_is : size ≡ (fields_of (m0 c)).size) where
      abbrev own_act : Act
      own_act = patch_act c (content_patch at piece ∷ changes_patch (size_changes (risen size (at + length piece)) times) ∷ []) None

      pub content_grown : (new : StoreState) (taken : ℕ) → taken ≡ length piece →
          Does T own_fs (record { starts = []; acts = λ begun. own_act ∷ [] }) state new (Ok tt) → IsOpen T new volume → IsUnnamed new volume c → Said new taken
      content_grown new taken count does open_new unnamed =
          let ran = ran_acts T own_fs (own_act ∷ []) state new does in
          let read = acts_read T own_fs (own_act ∷ []) state new is_open.kept.store (All-cons KeepsBlocks own_act [] refl (All-nil KeepsBlocks)) ran in
          let bucket : bucket_at at ≡ 0 = ap (λ t. if t then 0 else at / 512 + 1) (lt-ltb at 384 is_low) in
          let place : place_in_bucket at ≡ at = ap (λ t. if t then at else at % 512) (lt-ltb at 384 is_low) in
          let o = put_over c (128 + at) (ap (bucket_block own_m c) bucket) (λ j. bucket_start (bucket j) + place j)
          (c_there T state volume is_open c inode_now begun) in
          piece_said new taken count (grown_then types piece (put_there c (128 + at) (ap (bucket_block own_m c) bucket)
          (λ j. bucket_start (bucket j) + place j) (c_there T state volume is_open c inode_now begun)) o is_piece.end new open_new unnamed
          (λ x ne. written_alike (patch_act c (one_patch (128 + at) piece) None
          ∷ changes_act c (size_changes (risen (fields_of (own_m c)).size (at + length piece)) times ∷ []) None ∷ []) own_m m0 x (other x ne)
          ∙ ((λ j. written (changes_act c (size_changes (sym (risen_same size size_is) j) times ∷ []) None)
          (written (patch_act c (one_patch (128 + at) piece) None) m0) x)
          ∙ (ap (λ f. f x) (sym (written_twice c (content_patch at piece) (changes_patch (size_changes (risen size (at + length piece)) times) ∷ []) m0))
          ∙ ap (λ f. f x) (sym read.1)))))

    -- In a leaf

    module _ (high : 384 ≤ at) (leaf_there : leaf_block m0 c (at / 512) ≢ 0) (size : ℕ) (size_is : size ≡ (fields_of (m0 c)).size) where
      abbrev leaf : ℕ
      leaf = leaf_block m0 c (at / 512)

      abbrev first_act : Act
      first_act = bytes_act leaf (at % 512) piece None

      leaf_same : leaf_block own_m c (at / 512) ≡ leaf
      leaf_same = own_way volume.tree.node_type volume.tree.inode_type volume.tree.top c (kinds state own_fs) m0
          (aside T state volume is_open c inode_now begun) begun.within 0 (steps (at / 512)) (steps_way (at / 512))

      rises : risen size (at + length piece) ≡ Some (at + length piece)
      rises =
          let s = own_size T state volume is_open c inode_now begun in
          let e = ap (λ l. (fields_of l).size) (own_same T state volume is_open c inode_now begun) in
          let p = is_piece.some in
          let less : size < at + length piece = omega (arith, s, e, p, size_is) in
          ap (λ t. if t then Some (at + length piece) else None) (lt-ltb size (at + length piece) less)

      keep : (o : Option ℕ) → All KeepsBlocks (first_act ∷ size_acts c leaf o times)
      keep None = All-cons KeepsBlocks first_act [] refl (All-nil KeepsBlocks)
      keep (Some s) =
          All-cons KeepsBlocks first_act (size_acts c leaf (Some s) times) refl
          (All-cons KeepsBlocks (changes_act c (size_changes (Some s) times ∷ []) (Some leaf)) [] refl (All-nil KeepsBlocks))

      pub leaf_grown : (new : StoreState) (taken : ℕ) → taken ≡ length piece →
          Does T own_fs (record { starts = []; acts = λ begun. first_act ∷ size_acts c leaf (risen size (at + length piece)) times }) state new (Ok tt) →
          IsOpen T new volume → IsUnnamed new volume c → Said new taken
      leaf_grown new taken count does open_new unnamed =
          let acts = first_act ∷ size_acts c leaf (risen size (at + length piece)) times in
          let ran = ran_acts T own_fs acts state new does in
          let read = acts_read T own_fs acts state new is_open.kept.store (keep (risen size (at + length piece))) ran in
          let bucket : bucket_at at ≡ at / 512 + 1 = ap (λ t. if t then 0 else at / 512 + 1) (le-ltb at 384 high) in
          let place : place_in_bucket at ≡ at % 512 = ap (λ t. if t then at else at % 512) (le-ltb at 384 high) in
          let some_bucket : bucket_at at ≢ 0 = λ z. absurd (omega (arith, z, bucket)) in
          let less : bucket_at at - 1 ≡ at / 512 = omega arith in
          let start : bucket_start (bucket_at at) ≡ 0 = ap (λ t. if t then 128 else 0) (ne_eqb (bucket_at at) 0 some_bucket) in
          let block_path : bucket_block own_m c (bucket_at at) ≡ leaf =
          ap (λ t. if t then c else leaf_block own_m c (bucket_at at - 1)) (ne_eqb (bucket_at at) 0 some_bucket) ∙
          (ap (leaf_block own_m c) less ∙ leaf_same) in
          let offset_path : bucket_start (bucket_at at) + place_in_bucket at ≡ at % 512 = omega arith in
          let o = put_over leaf (at % 512) block_path offset_path leaf_there in
          piece_said new taken count (grown_then types piece (put_there leaf (at % 512) block_path offset_path leaf_there) o is_piece.end new open_new unnamed
          (λ x ne. written_alike (first_act
          ∷ changes_act c (size_changes (risen (fields_of (own_m c)).size (at + length piece)) times ∷ []) None ∷ []) own_m m0 x (other x ne)
          ∙ ((λ j. written (changes_act c (size_changes ((sym (risen_same size size_is) ∙ rises) j) times ∷ []) None) (written first_act m0) x)
          ∙ (ap (λ r. all_written (first_act ∷ size_acts c leaf r times) m0 x) (sym rises) ∙ ap (λ f. f x) (sym read.1)))))
