-- An open volume once bytes were written over those of one of its files: with the times in the inode's block, with the inode touched, or with neither.
use Rattle.std.proofs.Common.{◌≡◌, ◌≢◌, ℕ, ℤ, ◌+◌, ◌<◌, ◌≤◌, true, false, List, None, Some, Result, Ok, Err, refl, sym, ◌∙◌, ap, subst, if◌then◌else◌}
use Rattle.std.specs.Prelude.{length, nat_le, take, ◌==◌}
use Rattle.std.specs.Option.{ok_or}
use Rattle.std.proofs.lemmas.Bool.{eq-eqb, lt-leb, ne_eqb}
use Rattle.std.proofs.lemmas.List.Elements.{All-weaker}
use Rattle.std.proofs.lemmas.Option.{same_Some}
use Rattle.xn_model.specs.Types.{Types}
use Rattle.xn_model.specs.Calls.{root_of}
use Rattle.xn_model.specs.Lives.{StoreState}
use Rattle.xn_model.specs.Rules.{IsConsistent}
use Rattle.treefs_format.specs.Fields.{fields_of}
use Rattle.treefs_format.specs.Inodes.{kind_of}
use Rattle.treefs_format.specs.Leaves.{greatest_size}
use Rattle.treefs_format.specs.declared.kind.Kind.{Kind}
use Rattle.treefs_format.specs.declared.kind.Kind.TheVariants as kind
use Rattle.treefs_model.specs.Changes.{overwritten, rewritten, with_bytes, written as written_files}
use Rattle.treefs_model.specs.Files.{File, Files, Inode, SymbolicLink, and_then, bytes_in, changed_at, file_at, found}
use Rattle.treefs_model.specs.Reading.{byte_of, bytes_of, content_at, files_of, key_in}
use Rattle.treefs_model.specs.declared.fault.Fault.{Fault}
use Rattle.treefs_model.specs.declared.fault.Fault.TheVariants.{NoEntry, TooLarge}
use Rattle.treefs_lookup.specs.Inodes.{file_found}
use Rattle.treefs_lookup.specs.Readable.{readable}
use Rattle.treefs_lookup.specs.declared.inodes.Found.{Found}
use Rattle.treefs_edits.specs.Memories.{with_touched, without_touched}
use Rattle.treefs_edits.specs.declared.memory.Touched.{Touched}
use Rattle.treefs_edits.specs.declared.times.Times.{Times}
use Rattle.treefs.specs.Changed.{changed_volume}
use Rattle.treefs.specs.declared.volume.Volume.{Volume}
use Rattle.treefs_values.specs.Bytes.{put_within, with_put}
use Rattle.treefs_values.specs.Kinds.{kinds}
use Rattle.treefs_values.specs.Values.{found_value}
use Rattle.treefs_values.specs.Volumes.{IsVolume}
use Rattle.treefs_values.proofs.ForCallers.{IsFound, inodes_found}
use Rattle.treefs_laws.specs.Kept.{files_in}
use Rattle.treefs_laws.specs.Open.{IsOpen}
use Rattle.treefs_laws.specs.Seen.{AreTimes, seen_files, seen_inode}
use Rattle.treefs_laws.proofs.OverFile.{IsOver, dated, dated_files, dated_volume, put_bytes_are, value, value_is, with_content, within_bytes}
use Rattle.treefs_laws.proofs.Seeing.{found_seen, seen_changed}
use Rattle.treefs_laws.proofs.There.{changed_there}
use Rattle.treefs_laws.proofs.Touching.{all_touched, all_written_out, once_touched, once_written, others_touched, others_written, touched_now, written_now}
use Rattle.treefs_laws.proofs.TrimOpen.{IsFileFound, found_file}

module _ (T : Types) (state : StoreState) (volume : Volume) (is_open : IsOpen T state volume) (n : ℕ) (x : Found)
    (x_is : file_found (readable state volume.tree.fs.number) volume.tree.top n ≡ Ok x) where
  abbrev pub fs : ℕ
  fs = volume.tree.fs.number

  abbrev pub top : ℕ
  top = volume.tree.top

  abbrev pub content : ℕ → List ℕ
  content = readable state fs

  abbrev pub node : ℕ
  node = volume.tree.node_type

  abbrev pub inode : ℕ
  inode = volume.tree.inode_type

  abbrev pub seen : Files
  seen = files_in state volume

  abbrev pub clock : ℤ
  clock = volume.memory.clock

  pub file_there : IsFileFound T state volume is_open n x
  file_there = found_file T state volume is_open n x x_is

  pub found_there : IsFound content top n x
  found_there = file_there.is

  pub x_there : x.block ≢ 0
  x_there z = found_there.there (sym found_there.block ∙ z)

  pub fields_are : fields_of (content x.block) ≡ x.fields
  fields_are = ap (λ c. fields_of (content c)) found_there.block ∙ sym found_there.fields

  pub kind_is : kind_of (fields_of (content x.block)).mode ≡ Some x.kind
  kind_is = ap (λ c. kind_of (fields_of (content c)).mode) found_there.block ∙ found_there.kind

  -- What the model says

  known_bytes : (k : Kind) → k ≢ kind.Directory → (g : Result Files Fault) →
      and_then (bytes_in (content_at content (key_in content top) x.block x.fields.parent k)) (λ old. g) ≡ g
  known_bytes kind.Directory other g = absurd (other refl)
  known_bytes kind.File other g = refl
  known_bytes kind.SymbolicLink other g = refl

  value_found : found seen n ≡ Ok (seen_inode volume.memory.touched n (found_value content top x))
  value_found = found_seen volume.memory.touched (files_of content top) n (found_value content top x)
      (sym (inodes_found content top n) ∙ ap (λ r. and_then r (λ x. Ok (found_value content top x))) file_there.here)

  pub if_file : (g : Result Files Fault) → and_then (file_at seen n) (λ old. g) ≡ g
  if_file g = ap (λ r. and_then (and_then r (λ inode. bytes_in inode.content)) (λ old. g)) value_found ∙ known_bytes x.kind file_there.no_directory g

  abbrev over : ℕ → List ℕ → ℕ → Files
  over at bytes taken = changed_at seen n (rewritten clock (λ b. overwritten b at (take taken bytes)))

  written_below : (at : ℕ) (bytes : List ℕ) (taken : ℕ) → at < greatest_size →
      written_files seen clock n at bytes taken ≡ (if (length bytes == 0) then Ok seen else Ok (over at bytes taken))
  written_below at bytes taken low =
      if_file (if nat_le greatest_size at then Err TooLarge else if (length bytes == 0) then Ok seen else Ok (over at bytes taken))
      ∙ ap (λ t. if t then Err TooLarge else if (length bytes == 0) then Ok seen else Ok (over at bytes taken)) (lt-leb greatest_size at low)

  pub written_some : (at : ℕ) (bytes : List ℕ) (taken : ℕ) → length bytes ≢ 0 → at < greatest_size →
      written_files seen clock n at bytes taken ≡ Ok (changed_at seen n (rewritten clock (λ b. overwritten b at (take taken bytes))))
  written_some at bytes taken some low =
      written_below at bytes taken low ∙ ap (λ t. if t then Ok seen else Ok (over at bytes taken)) (ne_eqb (length bytes) 0 some)

  pub written_none : (at : ℕ) (bytes : List ℕ) (taken : ℕ) → length bytes ≡ 0 → at < greatest_size → written_files seen clock n at bytes taken ≡ Ok seen
  written_none at bytes taken none low =
      written_below at bytes taken low ∙ ap (λ t. if t then Ok seen else Ok (over at bytes taken)) (eq-eqb (length bytes) 0 none)

  -- What is read then

  module _ (small : (fields_of (content x.block)).size ≤ greatest_size) (at : ℕ) where
    abbrev pub Over : (ℕ → ℕ) → List ℕ → (ℕ → List ℕ) → Type 0
    Over type bytes m = IsOver node inode top n found_there.number x.block x_there x.kind file_there.no_directory content (sym found_there.block)
        kind_is small at type bytes m

    abbrev was_value : Inode
    was_value = value node inode top n found_there.number x.block x_there x.kind file_there.no_directory content (sym found_there.block) kind_is small at

    value_there : files_of content top n ≡ Some was_value
    value_there = value_is node inode top n found_there.number x.block x_there x.kind file_there.no_directory content (sym found_there.block) kind_is
        small at

    there : seen n ≢ None
    there none = absurd (cc (sym (ap (λ o. ok_or o NoEntry) none) ∙ value_found))

    stays : (files : Files) (change : Inode → Inode) → files ≡ changed_at seen n change → (m : ℕ) → seen m ≢ None → files m ≢ None
    stays files change is m some = subst (λ g. g m ≢ None) (sym is) (changed_there seen n change m some)

    module _ (new : StoreState) (store : IsConsistent T new) (root : root_of new fs ≡ Some top) (bytes : List ℕ) (m : ℕ → List ℕ)
        (o : Over (kinds new fs) bytes m) where
      -- with the times in the block
      module _ (few : at + length bytes ≤ greatest_size) (zeros : (p : ℕ) → (fields_of (content x.block)).size ≤ p → p < at → byte_of content x.block p ≡ 0)
          (reads : readable new fs ≡ dated node inode top n found_there.number x.block x_there x.kind file_there.no_directory content
          (sym found_there.block) kind_is small at
          (kinds new fs) bytes m o clock is_open.kept.session.clock few zeros) where
        abbrev later : Volume
        later = changed_volume volume n true

        abbrev left : List Touched
        left = without_touched volume.memory.touched n

        abbrev after : Inode → Inode
        after i = record i { mtime = clock; ctime = clock; content = with_bytes (λ old. overwritten (bytes_of content x.block) at bytes) i.content }

        after_bytes : (k : Kind) → k ≢ kind.Directory → let c = content_at content (key_in content top) x.block (fields_of (content x.block)).parent k in
            with_bytes (λ old. overwritten (bytes_of content x.block) at bytes) c ≡ with_bytes (λ b. overwritten b at bytes) c
        after_bytes kind.Directory other = absurd (other refl)
        after_bytes kind.File other = refl
        after_bytes kind.SymbolicLink other = refl

        same_seen : (i : Inode) → files_of content top n ≡ Some i →
            seen_inode left n (after i) ≡ rewritten clock (λ b. overwritten b at bytes) (seen_inode volume.memory.touched n i)
        same_seen i is =
            subst (λ y. seen_inode left n (after y) ≡ rewritten clock (λ b. overwritten b at bytes) (seen_inode volume.memory.touched n y))
            (same_Some was_value i (sym value_there ∙ is))
            ((λ j. record (after was_value) {
              mtime = (written_now n (record { mtime = clock; ctime = clock }) (record { mtime = clock; ctime = clock }) volume.memory.touched
                  is_open.kept.session.once j).mtime;
              ctime = (written_now n (record { mtime = clock; ctime = clock }) (record { mtime = clock; ctime = clock }) volume.memory.touched
                  is_open.kept.session.once j).ctime;
            })
            ∙ ap (λ y. record was_value { mtime = clock; ctime = clock; content = y }) (after_bytes x.kind file_there.no_directory))

        pub dated_seen : files_in new later ≡ changed_at seen n (rewritten clock (λ b. overwritten b at bytes))
        dated_seen =
            ap (λ c. seen_files left (files_of c top)) reads
            ∙ (ap (seen_files left) (dated_files node inode top n found_there.number x.block x_there x.kind file_there.no_directory content
            (sym found_there.block) kind_is small at
            (kinds new fs) bytes m o clock is_open.kept.session.clock few zeros)
            ∙ seen_changed volume.memory.touched left (files_of content top) n after (rewritten clock (λ b. overwritten b at bytes))
            (λ m t ne. others_written n t t m ne volume.memory.touched) same_seen)

        pub dated_open : IsOpen T new later
        dated_open = record {
          kept = record {
            store = store;
            bytes = subst (λ c. IsVolume node inode (kinds new fs) c top) (sym reads)
                (dated_volume node inode top n found_there.number x.block x_there x.kind file_there.no_directory content (sym found_there.block)
                kind_is small at
                (kinds new fs) bytes m o clock is_open.kept.session.clock few zeros);
            session = record {
              once = once_written n volume.memory.touched is_open.kept.session.once;
              clock = is_open.kept.session.clock;
              times = all_written_out (λ touch. AreTimes touch.times) n volume.memory.touched is_open.kept.session.times;
            };
          };
          few = is_open.few;
          tree = is_open.tree;
          short = is_open.short;
          root = root;
          touched = all_written_out (λ touch. files_in new later touch.number ≢ None) n volume.memory.touched
              (All-weaker (λ (touch : Touched). seen touch.number ≢ None) (λ touch. files_in new later touch.number ≢ None)
              (λ touch some. stays (files_in new later) (rewritten clock (λ b. overwritten b at bytes)) dated_seen touch.number some) volume.memory.touched
              is_open.touched);
        }

      module _ (reads : readable new fs ≡ m) where
        new_volume : IsVolume node inode (kinds new fs) (readable new fs) top
        new_volume = subst (λ c. IsVolume node inode (kinds new fs) c top) (sym reads) o.volume

        new_files : files_of (readable new fs) top ≡ changed_at (files_of content top) n (with_content (bytes_of m x.block))
        new_files = ap (λ c. files_of c top) reads ∙ o.files_are

        -- with the inode touched, where as many bytes are there as before
        module _ (within : at + length bytes ≤ (fields_of (content x.block)).size) where
          abbrev touched_later : Volume
          touched_later = changed_volume volume n false

          abbrev now : Times
          now = record { mtime = clock; ctime = clock }

          abbrev more : List Touched
          more = with_touched volume.memory.touched n now

          bytes_then : bytes_of m x.block ≡ overwritten (bytes_of content x.block) at bytes
          bytes_then = within_bytes node inode top n found_there.number x.block x_there x.kind file_there.no_directory content (sym found_there.block)
              kind_is small at
              (kinds new fs) bytes m o within

          over_bytes : (k : Kind) → k ≢ kind.Directory → let c = content_at content (key_in content top) x.block (fields_of (content x.block)).parent k in
              with_bytes (λ old. bytes_of m x.block) c ≡ with_bytes (λ b. overwritten b at bytes) c
          over_bytes kind.Directory other = absurd (other refl)
          over_bytes kind.File other = (λ j. File (bytes_then j))
          over_bytes kind.SymbolicLink other = (λ j. SymbolicLink (bytes_then j))

          same_touched : (i : Inode) → files_of content top n ≡ Some i →
              seen_inode more n (with_content (bytes_of m x.block) i) ≡ rewritten clock (λ b. overwritten b at bytes) (seen_inode volume.memory.touched n i)
          same_touched i is =
              subst (λ y. seen_inode more n (with_content (bytes_of m x.block) y) ≡ rewritten clock (λ b. overwritten b at bytes)
              (seen_inode volume.memory.touched n y))
              (same_Some was_value i (sym value_there ∙ is))
              ((λ j. record (with_content (bytes_of m x.block) was_value) {
                mtime = (touched_now n now (record { mtime = was_value.mtime; ctime = was_value.ctime }) volume.memory.touched j).mtime;
                ctime = (touched_now n now (record { mtime = was_value.mtime; ctime = was_value.ctime }) volume.memory.touched j).ctime;
              })
              ∙ ap (λ y. record was_value { mtime = clock; ctime = clock; content = y }) (over_bytes x.kind file_there.no_directory))

          pub touched_seen : files_in new touched_later ≡ changed_at seen n (rewritten clock (λ b. overwritten b at bytes))
          touched_seen =
              ap (seen_files more) new_files
              ∙ seen_changed volume.memory.touched more (files_of content top) n (with_content (bytes_of m x.block))
              (rewritten clock (λ b. overwritten b at bytes))
              (λ m t ne. others_touched n now t m ne volume.memory.touched) same_touched

          pub touched_open : IsOpen T new touched_later
          touched_open = record {
            kept = record {
              store = store;
              bytes = new_volume;
              session = record {
                once = once_touched n now volume.memory.touched is_open.kept.session.once;
                clock = is_open.kept.session.clock;
                times = all_touched (λ touch. AreTimes touch.times) n now (is_open.kept.session.clock, is_open.kept.session.clock) volume.memory.touched
                    is_open.kept.session.times;
              };
            };
            few = is_open.few;
            tree = is_open.tree;
            short = is_open.short;
            root = root;
            touched = all_touched (λ touch. files_in new touched_later touch.number ≢ None) n now
                (stays (files_in new touched_later) (rewritten clock (λ b. overwritten b at bytes)) touched_seen n there) volume.memory.touched
                (All-weaker (λ (touch : Touched). seen touch.number ≢ None) (λ touch. files_in new touched_later touch.number ≢ None)
                (λ touch some. stays (files_in new touched_later) (rewritten clock (λ b. overwritten b at bytes)) touched_seen touch.number some)
                volume.memory.touched is_open.touched);
          }

        -- with neither
        put_bytes : (k : Kind) → k ≢ kind.Directory → let c = content_at content (key_in content top) x.block (fields_of (content x.block)).parent k in
            with_bytes (λ old. bytes_of m x.block) c ≡ with_bytes (put_within at bytes) c
        put_bytes k other = by k other
          where
            bytes_put : bytes_of m x.block ≡ put_within at bytes (bytes_of content x.block)
            bytes_put = put_bytes_are node inode top n found_there.number x.block x_there x.kind file_there.no_directory content
                (sym found_there.block) kind_is small at
                (kinds new fs) bytes m o

            by : (k : Kind) → k ≢ kind.Directory → let c = content_at content (key_in content top) x.block (fields_of (content x.block)).parent k in
                with_bytes (λ old. bytes_of m x.block) c ≡ with_bytes (put_within at bytes) c
            by kind.Directory other = absurd (other refl)
            by kind.File other = (λ j. File (bytes_put j))
            by kind.SymbolicLink other = (λ j. SymbolicLink (bytes_put j))

        same_put : (i : Inode) → files_of content top n ≡ Some i →
            seen_inode volume.memory.touched n (with_content (bytes_of m x.block) i) ≡ with_put at bytes (seen_inode volume.memory.touched n i)
        same_put i is =
            subst (λ y. seen_inode volume.memory.touched n (with_content (bytes_of m x.block) y) ≡ with_put at bytes (seen_inode volume.memory.touched n y))
            (same_Some was_value i (sym value_there ∙ is))
            (ap (λ y. record (seen_inode volume.memory.touched n was_value) { content = y }) (put_bytes x.kind file_there.no_directory))

        pub put_seen : files_in new volume ≡ changed_at seen n (with_put at bytes)
        put_seen =
            ap (seen_files volume.memory.touched) new_files
            ∙ seen_changed volume.memory.touched volume.memory.touched (files_of content top) n (with_content (bytes_of m x.block)) (with_put at bytes)
            (λ m t ne. refl) same_put

        pub put_open : IsOpen T new volume
        put_open = record {
          kept = record { store = store; bytes = new_volume; session = is_open.kept.session };
          few = is_open.few;
          tree = is_open.tree;
          short = is_open.short;
          root = root;
          touched = All-weaker (λ (touch : Touched). seen touch.number ≢ None) (λ touch. files_in new volume touch.number ≢ None)
              (λ touch some. stays (files_in new volume) (with_put at bytes) put_seen touch.number some) volume.memory.touched is_open.touched;
        }
