-- An inode is begun, gets its number, and a first name: what that makes of the store and of the files.
use Rattle.std.proofs.Common.{◌≡◌, ◌≢◌, ◌⊎◌, ℕ, ◌+◌, ◌-◌, ◌<◌, ◌≤◌, ◌^◌, Bool, true, false, List, [], ◌∷◌, ◌++◌, length, take, drop, None, Some, Ok, refl, sym, ◌∙◌, ap, inl, inr, arith, subst, if◌then◌else◌}
use Rattle.std.specs.Prelude.{All, Contains, IsTrue, slice_index, ◌==◌}
use Rattle.std.proofs.lemmas.Bool.{eqb-false, eqb-true}
use Rattle.std.proofs.lemmas.List.{append-nil}
use Rattle.std.proofs.lemmas.List.Elements.{All-nil}
use Rattle.treefs_model.specs.Trees.{has_pointer}
use Rattle.xn_model.specs.Types.{Types}
use Rattle.xn_model.specs.Lives.{StoreState}
use Rattle.treefs_format.specs.Buckets.{room_without}
use Rattle.treefs_format.specs.Candidates.{candidates, name_hash}
use Rattle.treefs_format.specs.Fields.{fields_of}
use Rattle.treefs_format.specs.Inodes.{content_of, kind_of}
use Rattle.treefs_format.specs.Names.{is_name}
use Rattle.treefs_format.specs.Paths.{leaf_count, steps}
use Rattle.treefs_format.specs.Records.{Entry, Record, end_of, entries_of, is_live, records_of}
use Rattle.treefs_format.specs.Templates.{IsTree}
use Rattle.treefs_format.specs.declared.kind.Kind.TheVariants as kind
use Rattle.treefs_model.specs.Acts.{Act, Ran, attach_act, record_act}
use Rattle.treefs_model.specs.Files.{Inode, with_inode, with_name}
use Rattle.treefs_model.specs.Reading.{block_at, bucket_of, files_of, leaf_block}
use Rattle.treefs_lookup.specs.Buckets.{bucket_block, bucket_start}
use Rattle.treefs_lookup.specs.Readable.{readable}
use Rattle.treefs_lookup.specs.Walks.{reach}
use Rattle.treefs_edits.specs.Kinds.{rewritten_act}
use Rattle.treefs_edits.specs.Missing.{last_or_owner, missing_path, node_acts, node_starts, path_acts, path_starts}
use Rattle.treefs_edits.specs.declared.start.Start.{Start}
use Rattle.treefs_name_plans.specs.Additions.{addition_acts, addition_starts, bucket_path, last_block, old_start, rewriting}
use Rattle.treefs_name_plans.specs.Namings.{naming_block}
use Rattle.treefs_name_plans.specs.RenamePlans.{bytes_before, old_offset, rewritten_offset, stands_in}
use Rattle.treefs_name_plans.specs.declared.addition.Addition.{Addition}
use Rattle.treefs_name_plans.specs.declared.addition.Addition.TheVariants.{Behind, Rewritten, Made}
use Rattle.treefs_name_plans.specs.declared.naming.Naming.TheVariants.{Added}
use Rattle.treefs_lookup.specs.declared.names.Slot.{Slot}
use Rattle.treefs_values.specs.Kinds.{kinds}
use Rattle.treefs_values.specs.Values.{led_to}
use Rattle.treefs_values.specs.Ways.{IsWay, block_numbered}
use Rattle.treefs_values.proofs.ForCallers.{AreFree, AreNew, AreOf, IsAlike, IsAt, IsBehind, IsDirectoryAt, IsEdit, IsKeptInode, IsNew, IsOther, IsPlace, IsRead, IsSince, IsTold, New, Stands, all_front, blocks_in, bucket_same, directory_names, directory_stays, edit_is, free_stays, inodes_stay, leafed_so, made_behind, new_kept, new_parts, place_stays, placed_files, placed_here, placed_keeps, rewritten_behind, rewritten_changed, rewritten_directory, rewritten_files, rewritten_here, rewritten_inode, rewritten_keeps, rewritten_points, rewritten_some, rewritten_ways, rewriting_numbered, rewriting_own, rewriting_stands, same_bucket, stands_names, steps_way, tabled_so}
use Rattle.treefs_laws.proofs.NewPlanned.{IsAddition, IsToMake}

module _ (T : Types) (fs node inode top : ℕ) (few : fs < 32) (tree : IsTree T node inode) (plan : StoreState) (d c : ℕ) (key name : List ℕ)
    (named : IsTrue (is_name name)) (range : All (λ b. b < 256) name) (long : length name < 256)
    (few_of : (k : ℕ) → Contains (candidates (name_hash key name)) k → k ≤ leaf_count) where
  abbrev IsHere : StoreState → Type 0
  IsHere s = IsAt T fs node inode top s

  abbrev News : StoreState → List New → Type 0
  News s xs = AreNew node inode (kinds s fs) (readable s fs) top xs

  abbrev Dir : StoreState → Type 0
  Dir s = IsDirectoryAt (readable s fs) top d c key

  abbrev Of : List Start → List New → Type 0
  Of = AreOf T fs node inode top few tree

  -- A name comes to lead to a number

  module _ (n : ℕ) (n_few : n < 2 ^ 32) where
    abbrev entry : Entry
    entry = record { number = n; name = name }

    -- by a record in a block, where no other record moves
    abbrev pub IsNamed : ℕ → StoreState → StoreState → Type 0
    IsNamed b old new = IsHere new × (files_of (readable new fs) top ≡ with_name (files_of (readable old fs) top) d name (led_to n))
        × ((m : ℕ) → m ≢ 0 → block_numbered (readable old fs) top m ≢ 0 → block_numbered (readable new fs) top m ≡ block_numbered (readable old fs) top m)
        × ((d' : ℕ) (name' : List ℕ) (block' offset' : ℕ) → Stands (readable old fs) top d' name' block' offset' → block' ≢ b →
        Stands (readable new fs) top d' name' block' offset')

    one_record : (old new : StoreState) (block offset behind : ℕ) → IsHere old → Dir old → IsPlace (readable old fs) key c name block offset →
        Ran T fs (record_act block offset entry (Some behind) ∷ []) old new (Ok tt) → IsNamed block old new
    one_record old new block offset behind here dir place ran = elim ran [
      | inl none ↦ absurd none
      | inr r ↦
          let edit = edit_is T fs (record_act block offset entry (Some behind)) old r.1 r.0 here.store refl r.2 in
          let keeps = placed_keeps node inode top (kinds old fs) (readable old fs) here.volume d c key dir name n n_few named range long (Some behind) block offset place in
          subst (IsNamed block old) (sym r.3.1) (
            placed_here T fs node inode top old here d c key dir r.1 name n n_few named range long (Some behind) block offset place edit,
            placed_files T fs node inode top old here d c key dir r.1 name n n_few named range long (Some behind) block offset place edit,
            (λ m some there. ap (λ x. block_numbered x top m) edit.reads ∙ keeps.0 m),
            (λ d' name' block' offset' s ne. subst (λ x. Stands x top d' name' block' offset') (sym edit.reads) (keeps.1 d' name' block' offset' s ne)),
          )
    ]

    -- once the bucket was rewritten, where it has to be
    abbrev pub IsReady : StoreState → Addition → Type 0
    IsReady s (Behind block offset) = IsPlace (readable s fs) key c name block offset
    IsReady s (Rewritten old) = IsPlace (readable s fs) key c name old.block old.offset
    IsReady s (Made made) = IsToMake (readable plan fs) key node c name made × AreFree (readable s fs) key c name
        × ((l : ℕ) (os : List ℕ) → IsWay os l → block_at (readable s fs) c os ≡ block_at (readable plan fs) c os)

    pub ready_stays : (old new : StoreState) → IsAlike (readable old fs) (readable new fs) c →
        ((l : ℕ) (os : List ℕ) → IsWay os l → block_at (readable new fs) c os ≡ block_at (readable old fs) c os) → (addition : Addition) →
        IsReady old addition → IsReady new addition
    ready_stays old new alike ways (Behind block offset) ready = place_stays (readable old fs) (readable new fs) key c name block offset alike ready
    ready_stays old new alike ways (Rewritten bucket) ready = place_stays (readable old fs) (readable new fs) key c name bucket.block bucket.offset alike ready
    ready_stays old new alike ways (Made made) ready = (
      ready.0,
      free_stays (readable old fs) (readable new fs) key c name
          (λ j. ap entries_of (bucket_same (readable old fs) (readable new fs) c alike.leaves alike.bytes j (ap content_of alike.own))) ready.1,
      λ l os way. ways l os way ∙ ready.2 l os way,
    )

    pub addition_made : (addition : Addition) (old new : StoreState) (behind : ℕ) (zs : List New) → IsHere old → Dir old → IsReady old addition → Of (addition_starts addition) zs →
        News old zs → Ran T fs (addition_acts addition (blocks_in zs) entry behind) old new (Ok tt) → IsNamed (naming_block (Added addition) (blocks_in zs)) old new
    addition_made (Behind block offset) old new behind zs here dir ready of news ran = one_record old new block offset behind here dir ready ran
    addition_made (Rewritten bucket) old new behind zs here dir ready of news ran = one_record old new bucket.block bucket.offset behind here dir ready ran
    addition_made (Made made) old new behind zs here dir ready of news ran =
        let m = ready.0 in
        let starts_are : path_starts made.node_type (bucket_path made) ≡ path_starts node (missing_path made.leaf (reach (readable plan fs) c (steps made.leaf)).missing) =
        (λ j. path_starts (m.node_is j) (missing_path made.leaf (m.missing_is j))) in
        let acts_are : addition_acts (Made made) (blocks_in zs) entry behind
        ≡ path_acts node (reach (readable plan fs) c (steps made.leaf)).block (missing_path made.leaf (reach (readable plan fs) c (steps made.leaf)).missing) (blocks_in zs)
        ++ record_act (last_block (blocks_in zs)) 0 entry (Some behind) ∷ [] =
        (λ j. path_acts (m.node_is j) (m.owner_is j) (missing_path made.leaf (m.missing_is j)) (blocks_in zs) ++ record_act (last_block (blocks_in zs)) 0 entry (Some behind) ∷ []) in
        let l = leafed_so T fs node inode top few tree old plan here d c dir.number dir.there dir.block ready.2 made.leaf m.few m.free zs
        (subst (λ starts. Of starts zs) starts_are of) news (record_act (last_block (blocks_in zs)) 0 entry (Some behind) ∷ []) new
        (subst (λ acts. Ran T fs acts old new (Ok tt)) acts_are ran) in
        let later = directory_names (readable old fs) (readable l.middle fs) top d c key l.names dir in
        let free = free_stays (readable old fs) (readable l.middle fs) key c name later.1 ready.1 in
        let b : ℕ = last_or_owner (reach (readable plan fs) c (steps made.leaf)).block (blocks_in zs) in
        let place = made_behind T fs node inode top l.middle l.leafed d c key later.0 name made.leaf b m.candidate long l.last l.there l.zeros_are free in
        let done = one_record l.middle new (last_block (blocks_in zs)) 0 behind l.leafed later.0
        (inl (subst (λ x. IsBehind (readable l.middle fs) key c name x 0) (sym l.last_is) place)) l.ran in (
          done.0,
          done.1 ∙ ap (λ f. with_name f d name (led_to n)) l.files,
          (λ m some there. let one = l.all_names m some there in done.2 m some (λ z. there (sym one.block ∙ z)) ∙ one.block),
          (λ d' name' block' offset' s ne. done.3 d' name' block' offset'
              (stands_names (readable old fs) (readable l.middle fs) top d' name' block' offset' s (l.all_names d' s.number s.there)) ne),
        )

    -- A bucket is rewritten first, where it has to be

    place_left : (place a b offset : ℕ) → place ≡ a + offset → b ≡ a → place - b ≡ offset
    place_left place a b offset is same = omega arith

    -- the records of other blocks stay, and those of its own move
    abbrev Rewrites : StoreState → StoreState → ℕ → ℕ → Type 0
    Rewrites old new k x = ((m : ℕ) → block_numbered (readable new fs) top m ≡ block_numbered (readable old fs) top m)
        × ((d' : ℕ) (name' : List ℕ) (block' offset' : ℕ) → Stands (readable old fs) top d' name' block' offset' → block' ≢ bucket_block (readable old fs) x k →
        Stands (readable new fs) top d' name' block' offset')
        × ((r : Record) → Contains (records_of (bucket_of (readable old fs) x k)) r → is_live r.entry ≡ true →
        Stands (readable new fs) top d r.entry.name (bucket_block (readable old fs) x k)
        (bucket_start k + (length (take r.offset (bucket_of (readable old fs) x k)) - room_without (take r.offset (bucket_of (readable old fs) x k)))))

    records_rewritten : (old new : StoreState) → IsHere old → Dir old → (k : ℕ) → k ≤ leaf_count → 0 < end_of (bucket_of (readable old fs) c k) →
        IsEdit T fs (rewritten_act (bucket_block (readable old fs) c k) (bucket_start k) (bucket_of (readable old fs) c k)) old new → Rewrites old new k c
    records_rewritten old new here dir k k_few =
        subst (λ x. 0 < end_of (bucket_of (readable old fs) x k) →
        IsEdit T fs (rewritten_act (bucket_block (readable old fs) x k) (bucket_start k) (bucket_of (readable old fs) x k)) old new → Rewrites old new k x) dir.block own
      where
        own : 0 < end_of (bucket_of (readable old fs) (block_numbered (readable old fs) top d) k) →
            IsEdit T fs (rewritten_act (bucket_block (readable old fs) (block_numbered (readable old fs) top d) k) (bucket_start k)
            (bucket_of (readable old fs) (block_numbered (readable old fs) top d) k)) old new → Rewrites old new k (block_numbered (readable old fs) top d)
        own full edit =
            let there : block_numbered (readable old fs) top d ≢ 0 = λ z. dir.there (sym dir.block ∙ z) in
            let one = subst (λ x. kind_of (fields_of (readable old fs x)).mode ≡ Some kind.Directory) (sym dir.block) dir.directory in (
              (λ m. ap (λ x. block_numbered x top m) edit.reads
                  ∙ rewriting_numbered node inode top (kinds old fs) (readable old fs) here.volume d dir.number there k k_few one full m),
              (λ d' name' block' offset' s ne. subst (λ x. Stands x top d' name' block' offset') (sym edit.reads)
                  (rewriting_stands node inode top (kinds old fs) (readable old fs) here.volume d dir.number there k k_few one full d' name' block' offset' s ne)),
              (λ r has live. subst (λ x. Stands x top d r.entry.name (bucket_block (readable old fs) (block_numbered (readable old fs) top d) k)
                  (bucket_start k + (length (take r.offset (bucket_of (readable old fs) (block_numbered (readable old fs) top d) k))
                  - room_without (take r.offset (bucket_of (readable old fs) (block_numbered (readable old fs) top d) k))))) (sym edit.reads)
                  (rewriting_own node inode top (kinds old fs) (readable old fs) here.volume d dir.number there k k_few one full r has live)),
            )

    pub record IsPrepared (addition : Addition) (rest : List Act) (old new : StoreState) : Type 0 where
      pub middle : StoreState
      pub prepared : IsHere middle
      pub dir : Dir middle
      pub ready : IsReady middle addition
      pub ran : Ran T fs rest middle new (Ok tt)
      pub files : files_of (readable middle fs) top ≡ files_of (readable old fs) top
      pub keeps : (x : New) → IsNew node inode (kinds old fs) (readable old fs) top x → IsNew node inode (kinds middle fs) (readable middle fs) top x
      pub ways : (l : ℕ) (os : List ℕ) → IsWay os l → block_at (readable middle fs) top os ≡ block_at (readable old fs) top os
      pub inodes : (m : ℕ) → m ≢ d → m ≢ 0 → block_numbered (readable old fs) top m ≢ 0 → IsKeptInode (readable old fs) (readable middle fs) top m
      pub numbered : (m : ℕ) → block_numbered (readable middle fs) top m ≡ block_numbered (readable old fs) top m
      -- records of other blocks stay, and those of the block itself move
      pub stands : (d' : ℕ) (name' : List ℕ) (block' offset' : ℕ) → Stands (readable old fs) top d' name' block' offset' → stands_in (Added addition) block' ≡ false →
          Stands (readable middle fs) top d' name' block' offset'
      pub moved : (slot : Slot) (name' : List ℕ) (s : Stands (readable old fs) top d name' slot.block slot.offset) → is_live s.record_of.entry ≡ true →
          stands_in (Added addition) slot.block ≡ true → Stands (readable middle fs) top d name' slot.block (old_offset slot (Added addition))
      pub since : IsSince T fs node inode top [] old middle

    since_same : (s : StoreState) → IsHere s → IsSince T fs node inode top [] s s
    since_same s here = record { here = here; types = refl; others = λ b unread apart. refl; unled = λ b apart is. is; keeps = λ x is apart. is }

    -- the block of a bucket is read
    bucket_read : (content : ℕ → List ℕ) (k : ℕ) → block_numbered content top d ≡ c → bucket_block content c k ≢ 0 → IsRead content top (bucket_block content c k)
    bucket_read content k is some = (some, by (k == 0) refl)
      where
        by : (t : Bool) → (k == 0) ≡ t → ((m : ℕ) × (bucket_block content c k ≡ block_numbered content top m))
            ⊎ ((m l : ℕ) × (os : List ℕ) × IsWay os l × (bucket_block content c k ≡ block_at content (block_numbered content top m) os))
        by true e = inl (d, ap (λ t. if t then c else leaf_block content c (k - 1)) e ∙ sym is)
        by false e = inr (
          d,
          0,
          steps (k - 1),
          steps_way (k - 1),
          ap (λ t. if t then c else leaf_block content c (k - 1)) e ∙ ap (λ x. leaf_block content x (k - 1)) (sym is),
        )

    -- of the directory, since it was planned
    pub record StandsSince (s : StoreState) : Type 0 where
      pub alike : IsAlike (readable plan fs) (readable s fs) c
      pub ways : (l : ℕ) (os : List ℕ) → IsWay os l → block_at (readable s fs) c os ≡ block_at (readable plan fs) c os

    pub prepared_so : (addition : Addition) (rest : List Act) (old new : StoreState) → IsHere old → Dir old → StandsSince old →
        IsAddition (readable plan fs) key node c name addition → Ran T fs (rewriting addition ++ rest) old new (Ok tt) → IsPrepared addition rest old new
    prepared_so (Behind block offset) rest old new here dir since is ran = record {
      middle = old;
      prepared = here;
      dir = dir;
      ready = place_stays (readable plan fs) (readable old fs) key c name block offset since.alike is;
      ran = ran;
      files = refl;
      keeps = λ x is_new. is_new;
      ways = λ l os way. refl;
      inodes = λ m ne some there. (inodes_stay (readable old fs) top).inodes m some there;
      numbered = λ m. refl;
      stands = λ d' name' block' offset' s apart. s;
      moved = λ slot name' s live same. s;
      since = since_same old here;
    }
    prepared_so (Made made) rest old new here dir since is ran = record {
      middle = old;
      prepared = here;
      dir = dir;
      ready = (
        is,
        free_stays (readable plan fs) (readable old fs) key c name
            (λ j. ap entries_of (bucket_same (readable plan fs) (readable old fs) c since.alike.leaves since.alike.bytes j (ap content_of since.alike.own))) is.none,
        since.ways,
      );
      ran = ran;
      files = refl;
      keeps = λ x is_new. is_new;
      ways = λ l os way. refl;
      inodes = λ m ne some there. (inodes_stay (readable old fs) top).inodes m some there;
      numbered = λ m. refl;
      stands = λ d' name' block' offset' s apart. s;
      moved = λ slot name' s live same. s;
      since = since_same old here;
    }
    prepared_so (Rewritten bucket) rest old new here dir since is ran = elim ran [
      | inl none ↦ absurd none
      | inr r ↦
          let k : ℕ = is.bucket in
          let k_few = few_of k is.candidate in
          let same : bucket_of (readable old fs) c k ≡ bucket_of (readable plan fs) c k =
          bucket_same (readable plan fs) (readable old fs) c since.alike.leaves since.alike.bytes k (ap content_of since.alike.own) in
          let block_same : bucket_block (readable old fs) c k ≡ bucket_block (readable plan fs) c k = (λ j. if k == 0 then c else since.alike.leaves (k - 1) j) in
          let full = subst (λ m. 0 < end_of m) (sym same) is.full in
          let fits = subst (λ m. 5 + length name ≤ room_without m) (sym same) is.fits in
          let free = free_stays (readable plan fs) (readable old fs) key c name
          (λ j. ap entries_of (bucket_same (readable plan fs) (readable old fs) c since.alike.leaves since.alike.bytes j (ap content_of since.alike.own))) is.none in
          let act_same : rewritten_act bucket.block (old_start bucket) (drop (old_start bucket) bucket.bytes)
          ≡ rewritten_act (bucket_block (readable old fs) c k) (bucket_start k) (bucket_of (readable old fs) c k) =
          (λ j. rewritten_act ((is.block_is ∙ sym block_same) j) (is.start_is j) ((is.bytes_are ∙ sym same) j)) in
          let first = edit_is T fs (rewritten_act bucket.block (old_start bucket) (drop (old_start bucket) bucket.bytes)) old r.1 r.0 here.store refl r.2 in
          let edit = subst (λ a. IsEdit T fs a old r.1) act_same first in
          let behind = rewritten_behind T fs node inode top old here d c key dir r.1 k k_few full edit name is.candidate fits free in
          let rw = records_rewritten old r.1 here dir k k_few full edit in
          record {
            middle = r.1;
            prepared = rewritten_here T fs node inode top old here d c key dir r.1 k k_few full edit;
            dir = rewritten_directory T fs node inode top old here d c key dir r.1 k k_few full edit;
            ready = inl (subst (λ b. IsBehind (readable r.1 fs) key c name b bucket.offset) (block_same ∙ sym is.block_is)
                (subst (λ o. IsBehind (readable r.1 fs) key c name (bucket_block (readable old fs) c k) o)
                (ap (λ m. bucket_start k + (length m - room_without m)) same ∙ sym is.offset_is) behind));
            ran = r.3;
            files = rewritten_files T fs node inode top old here d c key dir r.1 k k_few full edit;
            keeps = rewritten_keeps T fs node inode top old here d c key dir r.1 k k_few full edit;
            ways = rewritten_ways T fs node inode top old here d c key dir r.1 k k_few full edit;
            inodes = rewritten_inode T fs node inode top old here d c key dir r.1 k k_few full edit;
            numbered = rw.0;
            stands = λ d' name' block' offset' s apart.
                rw.1 d' name' block' offset' s (λ e. eqb-false bucket.block block' apart (is.block_is ∙ (sym block_same ∙ sym e)));
            moved = λ slot name' s live in_it.
                let e : bucket.block ≡ slot.block = eqb-true bucket.block slot.block in_it in
                let own_k : s.bucket ≡ k = (same_bucket node inode top (kinds old fs) (readable old fs) here.volume d name' slot.block slot.offset s d k dir.number k_few
                (sym e ∙ (is.block_is ∙ (sym block_same ∙ ap (λ x. bucket_block (readable old fs) x k) (sym dir.block))))).1 in
                let there = subst (λ x. Contains (records_of (bucket_of (readable old fs) x k)) s.record_of) dir.block
                (subst (λ j. Contains (records_of (bucket_of (readable old fs) (block_numbered (readable old fs) top d) j)) s.record_of) own_k s.of) in
                let left : slot.offset - old_start bucket ≡ s.record_of.offset = place_left slot.offset (bucket_start s.bucket) (old_start bucket) s.record_of.offset s.offset_is
                (is.start_is ∙ ap bucket_start (sym own_k)) in
                let front : bytes_before bucket slot.offset ≡ take s.record_of.offset (bucket_of (readable old fs) c k) = (λ j. take (left j) ((is.bytes_are ∙ sym same) j)) in
                let offset : bucket_start k + (length (take s.record_of.offset (bucket_of (readable old fs) c k)) - room_without (take s.record_of.offset (bucket_of (readable old fs) c k)))
                ≡ old_offset slot (Added (Rewritten bucket)) =
                sym (ap (λ t. if t then rewritten_offset bucket slot.offset else slot.offset) in_it ∙ (λ j. is.start_is j + (length (front j) - room_without (front j)))) in
                let block : bucket_block (readable old fs) c k ≡ slot.block = block_same ∙ (sym is.block_is ∙ e) in
                subst (λ (x : List ℕ × ℕ × ℕ). Stands (readable r.1 fs) top d x.0 x.1 x.2) (λ j. (s.named j, block j, offset j)) (rw.2 s.record_of there live);
            since = record {
              here = rewritten_here T fs node inode top old here d c key dir r.1 k k_few full edit;
              types = edit.types;
              others = λ b unread apart. rewritten_changed T fs node inode top old here d c key dir r.1 k k_few full edit b
                  (λ is_bucket. unread (subst (IsRead (readable old fs) top) (sym is_bucket) (bucket_read (readable old fs) k dir.block
                  (rewritten_some T fs node inode top old here d c key dir r.1 k k_few full edit))));
              unled = λ b apart unled p o has led.
                  let was = subst (λ t. IsTrue (has_pointer node inode (t p) o)) edit.types has in
                  unled p o was (sym (rewritten_points T fs node inode top old here d c key dir r.1 k k_few full edit p o was) ∙ led);
              keeps = λ x is apart. rewritten_keeps T fs node inode top old here d c key dir r.1 k k_few full edit x is;
            };
          }
    ]

    -- The inode, its number and its name

    module _ (number : n ≢ 0) (n_within : n - 1 < leaf_count) (n_free : leaf_block (readable plan fs) top (n - 1) ≡ 0)
        (value : Inode) (addition : Addition) (is : IsAddition (readable plan fs) key node c name addition) where
      abbrev table : ℕ
      table = (reach (readable plan fs) top (steps (n - 1))).block

      abbrev missing : ℕ
      missing = (reach (readable plan fs) top (steps (n - 1))).missing

      abbrev path : List ℕ
      path = missing_path (n - 1) missing

      abbrev nodes_of : List ℕ
      nodes_of = take (missing - 1) path

      -- y: the block of the inode; nodes, others: those of the table, and for the record
      abbrev all_acts : ℕ → List ℕ → List ℕ → List Act
      all_acts y nodes others =
          let holder = last_or_owner table nodes in
          rewriting addition
          ++ (node_acts node inode table nodes_of nodes
          ++ (attach_act holder (slice_index path (missing - 1)) inode (y ∷ []) (Some y) ∷ (addition_acts addition others entry holder ++ [])))

      abbrev pub IsFirstNamed : StoreState → StoreState → Type 0
      IsFirstNamed old new = IsHere new × (files_of (readable old fs) top n ≡ None)
          × (files_of (readable new fs) top ≡ with_name (with_inode (files_of (readable old fs) top) n (Some value)) d name (led_to n))

      -- what is told of the inode's block stays so, and is enough
      module _ (y : ℕ) (Tells : StoreState → Type 0)
          (tells : (xs : List New) (s s' : StoreState) → IsSince T fs node inode top xs s s' → News s xs → All (λ x. x.block ≢ y) xs → Tells s → Tells s')
          (told : (s : StoreState) → IsHere s → Tells s → (h : ℕ) → IsRead (readable s fs) top h →
          IsTold node inode (kinds s fs) (readable s fs) top h y value) where
        pub first_named : (old new : StoreState) (xs zs : List New) → IsHere old → Dir old → StandsSince old →
            ((l : ℕ) (os : List ℕ) → IsWay os l → block_at (readable old fs) top os ≡ block_at (readable plan fs) top os) →
            Of (node_starts node inode nodes_of) xs → Of (addition_starts addition) zs → News old (xs ++ zs) → All (λ x. x.block ≢ y) (xs ++ zs) → Tells old →
            Ran T fs (all_acts y (blocks_in xs) (blocks_in zs)) old new (Ok tt) → IsFirstNamed old new
        first_named old new xs zs here dir since ways of_xs of_zs news others first ran =
            let holder : ℕ = last_or_owner table (blocks_in xs) in
            let last_acts = addition_acts addition (blocks_in zs) entry holder in
            let p = prepared_so addition (node_acts node inode table nodes_of (blocks_in xs)
            ++ (attach_act holder (slice_index path (missing - 1)) inode (y ∷ []) (Some y) ∷ (last_acts ++ []))) old new here dir since is ran in
            let news' : News p.middle (xs ++ zs) =
            new_kept node inode top (kinds old fs) (kinds p.middle fs) (readable old fs) (readable p.middle fs) (λ x. Unit {0}) (xs ++ zs) (λ i e lt. tt) (λ x any. p.keeps x) news in
            let apart = all_front (λ x. x.block ≢ y) xs zs others in
            let parts = new_parts node inode top (kinds p.middle fs) (readable p.middle fs) xs zs news' in
            let middle_tells = tells [] old p.middle p.since tt (All-nil (λ (x : New). x.block ≢ y)) first in
            let t = tabled_so T fs node inode top few tree p.middle plan p.prepared (λ l os way. p.ways l os way ∙ ways l os way) n number n_within n_free value xs y of_xs parts.0
            (λ s since h read. told s since.here (tells xs p.middle s since parts.0 apart.0 middle_tells) h read) (last_acts ++ []) new p.ran in
            let stays = directory_stays (readable p.middle fs) (readable t.middle fs) top d c key t.inodes p.dir in
            let ready = ready_stays p.middle t.middle stays.1 stays.2 addition p.ready in
            let zs_new : News t.middle zs =
            new_kept node inode top (kinds p.middle fs) (kinds t.middle fs) (readable p.middle fs) (readable t.middle fs) (λ z. All (λ x. IsOther x z) xs × (z.block ≢ y)) zs
            (λ i e lt. (parts.2 i e lt, apart.1 i e lt)) (λ z both z_new. t.keeps z z_new both.0 both.1) parts.1 in
            let done = addition_made addition t.middle new holder zs t.tabled stays.0 ready of_zs zs_new
            (subst (λ acts. Ran T fs acts t.middle new (Ok tt)) (append-nil last_acts) t.ran) in (
              done.0,
              ap (λ f. f n) (sym p.files) ∙ t.was,
              done.1 ∙ ap (λ f. with_name f d name (led_to n)) (t.files ∙ ap (λ f. with_inode f n (Some value)) p.files),
            )
