-- What truncate does to a file.
use mathlib.Core.Path.{fun_ext}
use Rattle.std.proofs.Common.{◌≡◌, ◌≢◌, ◌⊎◌, ℕ, ℤ, ◌+◌, ◌-◌, ◌<◌, ◌≤◌, ◌%◌, ◌/◌, ◌^◌, Bool, true, false, ◌&&◌, not, List, [], ◌∷◌, length, replicate, Option, None, Some, Result, Ok, Err, refl, sym, ◌∙◌, ap, inl, inr, subst, arith, if◌then◌else◌}
use Rattle.std.specs.Prelude.{All, FitsSigned, MatchResult, nat_lt, ◌==◌}
use Rattle.std.specs.Int.{w64}
use Rattle.std.specs.Option.{ok_or}
use Rattle.std.proofs.lemmas.Bool.{and_parts, le-ltb, lt-ltb, ltb-false, ltb-true}
use Rattle.std.proofs.lemmas.List.{length-replicate}
use Rattle.std.proofs.lemmas.List.Elements.{All-cons, All-nil, All-replicate, All-weaker}
use Rattle.std.proofs.lemmas.Option.{same_Some}
use Rattle.xn_model.specs.Types.{Types}
use Rattle.xn_model.specs.Calls.{Patch, patched, root_of}
use Rattle.xn_model.specs.Lists.{blank}
use Rattle.xn_model.specs.Lives.{StoreState}
use Rattle.xn_model.specs.Rules.{IsConsistent}
use Rattle.treefs_format.specs.Fields.{changes_patch, fields_of}
use Rattle.treefs_format.specs.Inodes.{kind_of}
use Rattle.treefs_format.specs.Leaves.{greatest_size}
use Rattle.treefs_format.specs.Paths.{leaf_count}
use Rattle.treefs_format.specs.declared.fields.Fields.{Fields}
use Rattle.treefs_format.specs.declared.kind.Kind.{Kind}
use Rattle.treefs_format.specs.declared.kind.Kind.TheVariants as kind
use Rattle.treefs_model.specs.Acts.{Act, Ran, one_patch, patch_act}
use Rattle.treefs_model.specs.Changes.{resized, rewritten, truncated}
use Rattle.treefs_model.specs.Files.{Files, Inode, and_then, bytes_in, changed_at, found}
use Rattle.treefs_model.specs.Reading.{byte_of, content_at, files_of, key_in}
use Rattle.treefs_model.specs.declared.fault.Fault.{Fault}
use Rattle.treefs_model.specs.declared.fault.Fault.TheVariants.{Full, NoEntry, TooLarge}
use Rattle.treefs_lookup.specs.Buckets.{bucket_block, bucket_start}
use Rattle.treefs_lookup.specs.Bytes.{part_left}
use Rattle.treefs_lookup.specs.Inodes.{file_found}
use Rattle.treefs_lookup.specs.Readable.{readable}
use Rattle.treefs_lookup.specs.Trimmed.{bytes_past}
use Rattle.treefs_lookup.specs.declared.inodes.Found.{Found}
use Rattle.treefs_edits.specs.Memories.{without_touched}
use Rattle.treefs_edits.specs.Plans.{Does}
use Rattle.treefs_edits.specs.Rooms.{has_room}
use Rattle.treefs_edits.specs.Written.{written}
use Rattle.treefs_edits.specs.declared.memory.Touched.{Touched}
use Rattle.treefs_byte_plans.specs.Fields.{size_changes, times_now}
use Rattle.treefs_byte_plans.specs.Kept.{kept_up_to}
use Rattle.treefs_byte_plans.specs.Sizes.{blank_from, changed_size, falls, has_bytes_behind, most_edits, planned_size, size_act, size_in_room, size_plan, trimmed_then, truncate_planned, truncated_file, zero_parts}
use Rattle.treefs_byte_plans.specs.declared.size.SizePlan.{SizePlan}
use Rattle.treefs.specs.Changed.{changed_volume}
use Rattle.treefs.specs.Sizing.{SizeDoes, TruncateDoes}
use Rattle.treefs.specs.Trimming.{TrimsFirst}
use Rattle.treefs.specs.declared.volume.Volume.{Volume}
use Rattle.treefs_values.specs.Bytes.{bucket_at, place_in_bucket}
use Rattle.treefs_values.specs.Kinds.{kinds}
use Rattle.treefs_values.specs.Values.{KeepsBlocks}
use Rattle.treefs_values.specs.Volumes.{IsVolume}
use Rattle.treefs_values.specs.Ways.{block_numbered}
use Rattle.treefs_values.proofs.ForCallers.{IsFound, acts_read}
use Rattle.treefs_laws.specs.Kept.{files_in}
use Rattle.treefs_laws.specs.Open.{IsOpen}
use Rattle.treefs_laws.specs.Seen.{AreTimes, seen_files, seen_inode}
use Rattle.treefs_laws.proofs.Planned.{ran_acts, same_done, then_ok}
use Rattle.treefs_laws.proofs.Seeing.{found_seen, seen_changed}
use Rattle.treefs_laws.proofs.StillOpen.{ran_root}
use Rattle.treefs_laws.proofs.There.{changed_there}
use Rattle.treefs_laws.proofs.TimesWritten.{refused_whole}
use Rattle.treefs_laws.proofs.Touching.{all_written_out, once_written, others_written, written_now}
use Rattle.treefs_laws.proofs.TrimBlanks.{put_fields, put_files, put_numbered, put_volume}
use Rattle.treefs_laws.proofs.TrimOpen.{IsFileFound, found_file, trim_said, trim_stays}
use Rattle.treefs_laws.proofs.TrimParts.{IsFileAt}
use Rattle.treefs_laws.proofs.TrimSought.{truncate_sought}
use Rattle.treefs_laws.proofs.TrimmedFirst.{AreZeros, sought_zeros}
use Rattle.treefs_laws.proofs.Truncated.{bytes_then, sized, sized_files, sized_kind, sized_numbered, sized_size, sized_volume, to_size, value, value_is, written_twice}

-- The size is set, with zeros behind it

module _ (node inode top : ℕ) (type : ℕ → ℕ) (content : ℕ → List ℕ) (v : IsVolume node inode type content top) (n : ℕ) (number : n ≢ 0)
    (there : block_numbered content top n ≢ 0) (size : ℕ) (time : ℤ) (fits : FitsSigned w64 time) (few : size < 2 ^ 64) (k : Kind)
    (is_kind : kind_of (fields_of (content (block_numbered content top n))).mode ≡ Some k) (no_directory : k ≢ kind.Directory) where
  abbrev b : ℕ
  b = block_numbered content top n

  abbrev first : ℕ → List ℕ
  first = sized node inode top type content v n number there size time fits few k is_kind no_directory

  pub record IsSizeSet (m : ℕ → List ℕ) : Type 0 where
    pub volume : IsVolume node inode type m top
    pub numbered : block_numbered m top n ≡ block_numbered content top n
    pub size_is : (fields_of (m (block_numbered m top n))).size ≡ size
    pub kind_so : kind_of (fields_of (m (block_numbered m top n))).mode ≡ Some k
    pub files : files_of m top ≡ changed_at (files_of content top) n (to_size node inode top type content v n number there size time fits few k is_kind no_directory)

  set_first : IsSizeSet first
  set_first = record {
    volume = sized_volume node inode top type content v n number there size time fits few k is_kind no_directory;
    numbered = sized_numbered node inode top type content v n number there size time fits few k is_kind no_directory;
    size_is = sized_size node inode top type content v n number there size time fits few k is_kind no_directory;
    kind_so = sized_kind node inode top type content v n number there size time fits few k is_kind no_directory;
    files = sized_files node inode top type content v n number there size time fits few k is_kind no_directory;
  }

  none_written : written (patch_act b [] None) first ≡ first
  none_written = fun_ext (λ x. by x (x == b))
    where
      by : (x : ℕ) (t : Bool) → (if t then patched (first x) [] else first x) ≡ first x
      by x true = refl
      by x false = refl

  zeros_set : size < 384 → IsSizeSet (written (patch_act b (zero_parts (Some (128 + size))) None) first)
  zeros_set low =
      let s = set_first in
      let bucket : bucket_at size ≡ 0 = ap (λ t. if t then 0 else size / 512 + 1) (lt-ltb size 384 low) in
      let at_place : place_in_bucket size ≡ size = ap (λ t. if t then size else size % 512) (lt-ltb size 384 low) in
      let left : part_left size ≡ 384 - size = ap (λ t. if t then 384 - size else 512 - size % 512) (lt-ltb size 384 low) in
      let long : length (replicate {A = ℕ} (512 - (128 + size)) 0) ≡ 512 - (128 + size) = length-replicate (512 - (128 + size)) 0 in
      let is_block : b ≡ bucket_block first (block_numbered first top n) (bucket_at size) = sym s.numbered ∙ ap (bucket_block first (block_numbered first top n)) (sym bucket) in
      let b_there : block_numbered first top n ≢ 0 = λ z. there (sym s.numbered ∙ z) in
      let range = All-replicate (λ b. b < 256) (512 - (128 + size)) 0 (omega arith) in
      let some : 0 < length (replicate {A = ℕ} (512 - (128 + size)) 0) = omega arith in
      let size_there = s.size_is in
      let past : (fields_of (first (block_numbered first top n))).size ≤ size = omega arith in
      let small : (fields_of (first (block_numbered first top n))).size ≤ greatest_size = omega arith in
      let few_buckets : bucket_at size ≤ leaf_count = omega arith in
      let room : length (replicate {A = ℕ} (512 - (128 + size)) 0) ≤ part_left size = omega arith in
      let block_there : bucket_block first (block_numbered first top n) (bucket_at size) ≢ 0 = λ z. there (is_block ∙ z) in
      subst (λ (a : Act). IsSizeSet (written a first)) (sym (λ j. patch_act (is_block j) (one_patch (bucket_start (sym bucket j) + sym at_place j) (replicate (512 - (128 + size)) 0)) None))
      (record {
        volume = put_volume node inode top type first s.volume n number b_there k s.kind_so no_directory size
            (replicate (512 - (128 + size)) 0) range some few_buckets room block_there past small None;
        numbered = put_numbered node inode top type first s.volume n number b_there k s.kind_so no_directory size
            (replicate (512 - (128 + size)) 0) range some few_buckets room block_there past small None ∙ s.numbered;
        size_is = ap (λ (f : Fields). f.size) (put_fields node inode top type first s.volume n number b_there k s.kind_so no_directory size
            (replicate (512 - (128 + size)) 0) range some few_buckets room block_there past small None) ∙ s.size_is;
        kind_so = ap (λ (f : Fields). kind_of f.mode) (put_fields node inode top type first s.volume n number b_there k s.kind_so no_directory size
            (replicate (512 - (128 + size)) 0) range some few_buckets room block_there past small None) ∙ s.kind_so;
        files = put_files node inode top type first s.volume n number b_there k s.kind_so no_directory size
            (replicate (512 - (128 + size)) 0) range some few_buckets room block_there past small None ∙ s.files;
      })

  abbrev cp : Patch
  cp = changes_patch (size_changes (changed_size (fields_of (content b)).size size) (record { mtime = time; ctime = time }))

  pub parts_set : (o : Option ℕ) → ((x : ℕ) → o ≡ Some x → (x ≡ 128 + size) × (size < 384)) → IsSizeSet (written (patch_act b (cp ∷ zero_parts o) None) content)
  parts_set None none = subst IsSizeSet (sym (written_twice b cp [] content ∙ none_written)) set_first
  parts_set (Some x) some =
      let s = some x refl in
      subst (λ y. IsSizeSet (written (patch_act b (cp ∷ zero_parts (Some y)) None) content)) (sym s.0)
      (subst IsSizeSet (sym (written_twice b cp (zero_parts (Some (128 + size))) content)) (zeros_set s.1))

-- In a state of the store

module _ (T : Types) (state : StoreState) (volume : Volume) (is_open : IsOpen T state volume) (n : ℕ) (x : Found)
    (x_is : file_found (readable state volume.tree.fs.number) volume.tree.top n ≡ Ok x) (size : ℕ) (small : size ≤ greatest_size)
    (zeros : (p : ℕ) → x.fields.size ≤ p → p < size → byte_of (readable state volume.tree.fs.number) x.block p ≡ 0) where
  abbrev fs : ℕ
  fs = volume.tree.fs.number

  abbrev top : ℕ
  top = volume.tree.top

  abbrev content : ℕ → List ℕ
  content = readable state fs

  abbrev type : ℕ → ℕ
  type = kinds state fs

  abbrev seen : Files
  seen = files_in state volume

  abbrev clock : ℤ
  clock = volume.memory.clock

  pub file_there : IsFileFound T state volume is_open n x
  file_there = found_file T state volume is_open n x x_is

  pub found_there : IsFound content top n x
  found_there = file_there.is

  few : size < 2 ^ 64
  few = omega arith

  abbrev IsSet : (ℕ → List ℕ) → Type 0
  IsSet m = IsSizeSet volume.tree.node_type volume.tree.inode_type top type content is_open.kept.bytes n found_there.number
      found_there.there size clock is_open.kept.session.clock few x.kind found_there.kind file_there.no_directory m

  abbrev after : Inode → Inode
  after = to_size volume.tree.node_type volume.tree.inode_type top type content is_open.kept.bytes n found_there.number
      found_there.there size clock is_open.kept.session.clock few x.kind found_there.kind file_there.no_directory

  abbrev was_value : Inode
  was_value = value volume.tree.node_type volume.tree.inode_type top type content is_open.kept.bytes n found_there.number
      found_there.there size clock is_open.kept.session.clock few x.kind found_there.kind file_there.no_directory

  value_there : files_of content top n ≡ Some was_value
  value_there = value_is volume.tree.node_type volume.tree.inode_type top type content is_open.kept.bytes n found_there.number
      found_there.there size clock is_open.kept.session.clock few x.kind found_there.kind file_there.no_directory

  abbrev plan : SizePlan
  plan = planned_size content volume.memory x size

  abbrev later : Volume
  later = changed_volume volume n true

  blanks : (o : ℕ) → blank_from content x size ≡ Some o → (o ≡ 128 + size) × (size < 384)
  blanks o e = by (falls x size) (has_bytes_behind content x.block size) refl e
    where
      by : (t s : Bool) → has_bytes_behind content x.block size ≡ s → (if t && s then Some (128 + size) else None) ≡ Some o → (o ≡ 128 + size) × (size < 384)
      by false s e is = absurd (cc is)
      by true false e is = absurd (cc is)
      by true true e is = (sym (same_Some (128 + size) o is), ltb-true size 384 (and_parts (nat_lt size 384) (not (blank (bytes_past content x.block size))) e).0)

  act_is : size_act plan ≡ patch_act (block_numbered content top n)
      (changes_patch (size_changes (changed_size (fields_of (content (block_numbered content top n))).size size) (record { mtime = clock; ctime = clock })) ∷
      zero_parts (blank_from content x size)) None
  act_is = (λ j. patch_act (found_there.block j) (changes_patch (size_changes (changed_size (found_there.fields j).size size) (times_now volume.memory)) ∷
      zero_parts (blank_from content x size)) None)

  module _ (set : StoreState) (ran : Ran T fs (size_act plan ∷ []) state set (Ok tt)) where
    keep : All KeepsBlocks (size_act plan ∷ [])
    keep = All-cons KeepsBlocks (size_act plan) [] refl (All-nil KeepsBlocks)

    read : IsConsistent T set × (readable set fs ≡ written (size_act plan) content) × (kinds set fs ≡ type)
    read = acts_read T fs (size_act plan ∷ []) state set is_open.kept.store keep ran

    is_set : IsSet (readable set fs)
    is_set = subst IsSet (sym (read.1 ∙ ap (λ a. written a content) act_is))
        (parts_set volume.tree.node_type volume.tree.inode_type top type content is_open.kept.bytes n found_there.number
        found_there.there size clock is_open.kept.session.clock few x.kind found_there.kind file_there.no_directory
        (blank_from content x size) blanks)

    root : root_of set fs ≡ Some top
    root = ran_root T fs (size_act plan ∷ []) state set is_open.kept.store keep ran ∙ is_open.root

    set_volume : IsVolume volume.tree.node_type volume.tree.inode_type (kinds set fs) (readable set fs) top
    set_volume = subst (λ t. IsVolume volume.tree.node_type volume.tree.inode_type t (readable set fs) top) (sym read.2) is_set.volume

    pub set_at : IsFileAt T volume.tree n found_there.number x.block size x.kind file_there.no_directory set
    set_at = record {
      here = record { store = read.0; root = root; volume = set_volume };
      block = is_set.numbered ∙ sym found_there.block;
      there = λ z. found_there.there (sym found_there.block ∙ z);
      size_is = is_set.size_is;
      kind_is = is_set.kind_so;
    }

    abbrev left : List Touched
    left = without_touched volume.memory.touched n

    same_seen : (inode : Inode) → files_of content top n ≡ Some inode → seen_inode left n (after inode) ≡ rewritten clock (resized size) (seen_inode volume.memory.touched n inode)
    same_seen inode at =
        let same : was_value ≡ inode = same_Some was_value inode (sym value_there ∙ at) in
        subst (λ i. seen_inode left n (after i) ≡ rewritten clock (resized size) (seen_inode volume.memory.touched n i)) same
        ((λ j. record (after was_value) {
          mtime = (written_now n (record { mtime = clock; ctime = clock }) (record { mtime = clock; ctime = clock }) volume.memory.touched is_open.kept.session.once j).mtime;
          ctime = (written_now n (record { mtime = clock; ctime = clock }) (record { mtime = clock; ctime = clock }) volume.memory.touched is_open.kept.session.once j).ctime;
        })
        ∙ ap (λ y. record was_value { mtime = clock; ctime = clock; content = y })
        (bytes_then volume.tree.node_type volume.tree.inode_type top type content is_open.kept.bytes n found_there.number
        found_there.there size clock is_open.kept.session.clock few x.kind found_there.kind file_there.no_directory
        (λ p low high. subst (λ b. byte_of content b p ≡ 0) found_there.block (zeros p (subst (λ s. s ≤ p) (sym (ap (λ (g : Fields). g.size) found_there.fields)) low) high))))

    pub set_files : files_in set later ≡ changed_at seen n (rewritten clock (resized size))
    set_files = ap (seen_files left) is_set.files
        ∙ seen_changed volume.memory.touched left (files_of content top) n after (rewritten clock (resized size)) (λ m t ne. others_written n t t m ne volume.memory.touched) same_seen

    stays : (m : ℕ) → seen m ≢ None → files_in set later m ≢ None
    stays m some = subst (λ g. g m ≢ None) (sym set_files) (changed_there seen n (rewritten clock (resized size)) m some)

    pub set_open : IsOpen T set later
    set_open = record {
      kept = record {
        store = read.0;
        bytes = set_volume;
        session = record {
          once = once_written n volume.memory.touched is_open.kept.session.once;
          clock = is_open.kept.session.clock;
          times = all_written_out (λ touch. AreTimes touch.times) n volume.memory.touched is_open.kept.session.times;
        };
      };
      few = is_open.few;
      tree = is_open.tree;
      short = is_open.short;
      root = root;
      touched = all_written_out (λ touch. files_in set later touch.number ≢ None) n volume.memory.touched
          (All-weaker (λ (touch : Touched). seen touch.number ≢ None) (λ touch. files_in set later touch.number ≢ None)
          (λ touch some. stays touch.number some) volume.memory.touched is_open.touched);
    }

    -- and then what stands past it is trimmed
    module _ (new : StoreState) (result : Result (Unit {0}) Fault) (trims : TrimsFirst T fs later.memory (trimmed_then x size) set new result) where
      new_said : IsOpen T new later × (files_in new later ≡ files_in set later)
      new_said = by (falls x size) trims
        where
          by : (t : Bool) → TrimsFirst T fs later.memory (if t then Some (kept_up_to x.block size) else None) set new result → IsOpen T new later × (files_in new later ≡ files_in set later)
          by false does = subst (λ s. IsOpen T s later × (files_in s later ≡ files_in set later)) (sym does.1) (set_open, refl)
          by true does =
              let s = trim_stays T volume.tree n found_there.number x.block size x.kind file_there.no_directory later.memory set new result set_at does in
              let files : files_in new later ≡ files_in set later = ap (seen_files left) s.1 in (
                record {
                  kept = record { store = s.0.here.store; bytes = s.0.here.volume; session = set_open.kept.session };
                  few = is_open.few;
                  tree = is_open.tree;
                  short = is_open.short;
                  root = s.0.here.root;
                  touched = subst (λ g. All (λ touch. g touch.number ≢ None) left) (sym files) set_open.touched;
                },
                files,
              )

      known_bytes : (k : Kind) → k ≢ kind.Directory → (g : Result Files Fault) →
          and_then (bytes_in (content_at content (key_in content top) (block_numbered content top n) (fields_of (content (block_numbered content top n))).parent k)) (λ old. g) ≡ g
      known_bytes kind.Directory other g = absurd (other refl)
      known_bytes kind.File other g = refl
      known_bytes kind.SymbolicLink other g = refl

      value_found : found (files_of content top) n ≡ Ok was_value
      value_found = ap (λ o. ok_or o NoEntry) value_there

      pub sized_said : IsOpen T new later × (truncated seen clock n size ≡ Ok (files_in new later))
      sized_said = (
        new_said.0,
        ap (λ r. and_then (and_then r (λ inode. bytes_in inode.content)) (λ old. if nat_lt greatest_size size then Err TooLarge else Ok (changed_at seen n (rewritten clock (resized size)))))
            (found_seen volume.memory.touched (files_of content top) n was_value value_found)
            ∙ (known_bytes x.kind file_there.no_directory (if nat_lt greatest_size size then Err TooLarge else Ok (changed_at seen n (rewritten clock (resized size))))
            ∙ (ap (λ t. if t then Err TooLarge else Ok (changed_at seen n (rewritten clock (resized size)))) (le-ltb greatest_size size small)
            ∙ ap Ok (sym (new_said.1 ∙ set_files)))),
      )

-- The call

module _ (T : Types) (old : StoreState) (volume : Volume) (is_open : IsOpen T old volume) (number size : ℕ) where
  abbrev own : ℕ
  own = volume.tree.fs.number

  chosen_size : (t : Bool) (x y : Found) → ◌≡◌ {A = Result Found Fault} (if t then Err TooLarge else Ok x) (Ok y) → (t ≡ false) × (x ≡ y)
  chosen_size true x y e = absurd (cc e)
  chosen_size false x y e = (refl, same_done x y e)

  chosen_plan : (t : Bool) (p q : SizePlan) → ◌≡◌ {A = Result SizePlan Fault} (if t then Ok p else Err Full) (Ok q) → p ≡ q
  chosen_plan true p q e = same_done p q e
  chosen_plan false p q e = absurd (cc e)

  -- it failed before the size was set, or the size was set
  abbrev pub Ends : StoreState → Volume → Result (Unit {0}) Fault → Type 0
  Ends new volume' result =
      ((fault : Fault) × (result ≡ Err fault) × (volume' ≡ volume) × IsOpen T new volume × (files_in new volume ≡ files_in old volume))
      ⊎ (IsOpen T new volume' × (truncated (files_in old volume) volume.memory.clock number size ≡ Ok (files_in new volume')))

  module _ (middle new : StoreState) (volume' : Volume) (result : Result (Unit {0}) Fault) (open_there : IsOpen T middle volume) (same : files_in middle volume ≡ files_in old volume)
      (zeros : (x : Found) → truncated_file (readable middle own) volume.tree.top number size ≡ Ok x → AreZeros volume middle x) where
    failed : (fault : Fault) → result ≡ Err fault → volume' ≡ volume → new ≡ middle → Ends new volume' result
    failed fault err v s =
        let stays = subst (λ t. IsOpen T t volume × (files_in t volume ≡ files_in old volume)) (sym s) (open_there, same) in
        inl (fault, err, v, stays.0, stays.1)

    module _ (plan : SizePlan) (x : Found) (x_is : file_found (readable middle own) volume.tree.top number ≡ Ok x) (small : size ≤ greatest_size)
        (past : AreZeros volume middle x) (plan_is : planned_size (readable middle own) volume.memory x size ≡ plan) where
      size_done : SizeDoes T middle new volume volume' number (Ok plan) result → Ends new volume' result
      size_done (inl (fails, v)) = by result refl fails
        where
          by : (r : Result (Unit {0}) Fault) → result ≡ r → MatchResult r (λ done. ⊥) (λ fault. Does T own (size_plan plan) middle new (Err fault)) → Ends new volume' result
          by (Ok done) err none = absurd none
          by (Err fault) err does = failed fault err v (refused_whole T own (size_act plan) middle new fault does)
      size_done (inr (set, does, v, trims)) =
          let ran = ran_acts T own (size_act plan ∷ []) middle set does in
          let said = sized_said T middle volume open_there number x x_is size small (λ p low high. past p low (omega arith)) set
          (subst (λ p. Ran T own (size_act p ∷ []) middle set (Ok tt)) (sym plan_is) ran) new result
          (subst (λ p. TrimsFirst T own (changed_volume volume number true).memory p.trimmed_then set new result) (sym plan_is)
          (subst (λ w. TrimsFirst T own w.memory plan.trimmed_then set new result) v trims)) in
          inr (subst (λ w. IsOpen T new w × (truncated (files_in old volume) volume.memory.clock number size ≡ Ok (files_in new w))) (sym v)
          (said.0, ap (λ g. truncated g volume.memory.clock number size) (sym same) ∙ said.1))

    size_ends : SizeDoes T middle new volume volume' number (truncate_planned middle volume.tree volume.memory number size) result → Ends new volume' result
    size_ends does = by (truncate_planned middle volume.tree volume.memory number size) refl does
      where
        by : (r : Result SizePlan Fault) → truncate_planned middle volume.tree volume.memory number size ≡ r → SizeDoes T middle new volume volume' number r result → Ends new volume' result
        by (Err fault) e does = failed fault does.0 does.2 does.1
        by (Ok plan) e does =
            let a = then_ok (truncated_file (readable middle own) volume.tree.top number size) (size_in_room middle own volume.memory size) plan e in
            let b = then_ok (file_found (readable middle own) volume.tree.top number) (λ (file : Found). if nat_lt greatest_size size then Err TooLarge else Ok file) a.0 a.1 in
            let c = chosen_size (nat_lt greatest_size size) b.0 a.0 b.2 in
            size_done plan a.0 (b.1 ∙ ap Ok c.1) (ltb-false greatest_size size c.0) (zeros a.0 a.1)
            (chosen_plan (has_room middle own (length volume.memory.touched) (most_edits a.0 size) ((a.0.block, most_edits a.0 size) ∷ []))
            (planned_size (readable middle own) volume.memory a.0 size) plan a.2) does

  pub truncate_ends : (new : StoreState) (volume' : Volume) (result : Result (Unit {0}) Fault) → TruncateDoes T old new volume volume' number size result → Ends new volume' result
  truncate_ends new volume' result (kept, sought, inl (fails, v)) = by result fails
    where
      by : (r : Result (Unit {0}) Fault) → MatchResult r (λ done. ⊥) (λ fault. TrimsFirst T own volume.memory kept old new (Err fault)) → Ends new volume' r
      by (Ok done) none = absurd none
      by (Err fault) trims =
          let s = trim_said T old volume is_open kept (truncate_sought old volume number size kept sought) new (Err fault) trims in inl (fault, refl, v, s.0, s.1)
  truncate_ends new volume' result (kept, sought, inr (middle, trims, does)) =
      let s = trim_said T old volume is_open kept (truncate_sought old volume number size kept sought) middle (Ok tt) trims in
      size_ends middle new volume' result s.0 s.1
      (λ x x_is. sought_zeros T old middle volume is_open s.0 number (nat_lt greatest_size size) x x_is (λ file. true) kept trims refl sought) does

  pub truncate_done : (new : StoreState) (volume' : Volume) → TruncateDoes T old new volume volume' number size (Ok tt) →
      IsOpen T new volume' × (truncated (files_in old volume) volume.memory.clock number size ≡ Ok (files_in new volume'))
  truncate_done new volume' does = elim (truncate_ends new volume' (Ok tt) does) [ inl failed ↦ absurd (cc failed.1) | inr done ↦ done ]

  pub truncate_refused : (new : StoreState) (volume' : Volume) (fault : Fault) → TruncateDoes T old new volume volume' number size (Err fault) →
      ((volume' ≡ volume) × IsOpen T new volume × (files_in new volume ≡ files_in old volume))
      ⊎ (IsOpen T new volume' × (truncated (files_in old volume) volume.memory.clock number size ≡ Ok (files_in new volume')))
  truncate_refused new volume' fault does = elim (truncate_ends new volume' (Err fault) does) [ inl failed ↦ inl (failed.2, failed.3, failed.4) | inr done ↦ inr done ]
