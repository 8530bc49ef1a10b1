-- The name of an empty directory ends.
use Rattle.std.proofs.Common.{◌≡◌, ◌≢◌, ◌⊎◌, ℕ, ◌+◌, ◌-◌, ◌<◌, ◌≤◌, Bool, true, false, List, [], ◌∷◌, ◌++◌, Option, None, Result, Ok, Err, refl, sym, ◌∙◌, ap, inl, inr, arith, subst, if◌then◌else◌}
use Rattle.std.specs.Prelude.{All, Contains, MatchBool, MatchResult, drop, find, length, map, not, slice_index, ◌&&◌, ◌||◌, ◌==◌}
use Rattle.std.specs.List.{list_any}
use Rattle.std.proofs.lemmas.Bool.{cases_eq, eq-eqb, ne_eqb}
use Rattle.std.proofs.lemmas.List.Elements.{All-cons, All-nil}
use Rattle.std.proofs.lemmas.Option.{same_Some}
use Rattle.xn_model.proofs.ForCallers.{Contains-head, Contains-none, Contains-tail}
use Rattle.xn_model.specs.Types.{Types}
use Rattle.xn_model.specs.Lives.{StoreState}
use Rattle.treefs_format.specs.Buckets.{has_name, live_record}
use Rattle.treefs_format.specs.Candidates.{candidates, name_hash}
use Rattle.treefs_format.specs.Paths.{leaf_count}
use Rattle.xn_model.specs.Rules.{IsConsistent}
use Rattle.treefs_format.proofs.ForCallers.{no_length}
use Rattle.treefs_format.specs.Records.{Record, is_live, placed, records_of}
use Rattle.treefs_format.specs.declared.kind.Kind.{Kind}
use Rattle.treefs_format.specs.declared.kind.Kind.TheVariants as kind
use Rattle.treefs_model.specs.Acts.{Act, Ran, number_act, wait_act}
use Rattle.treefs_model.specs.Changes.{removed, without_name}
use Rattle.treefs_model.specs.Files.{Content, Directory, File, Files, Inode, Names, and_then, found, is_directory, number_in, SymbolicLink, when}
use Rattle.treefs_model.specs.Reading.{bucket_of, content_at, key_in, leaf_block, number_among, number_of}
use Rattle.treefs_model.specs.declared.fault.Fault.{Fault}
use Rattle.treefs_model.specs.declared.fault.Fault.TheVariants.{Full, NotDir, NotEmpty}
use Rattle.treefs_lookup.specs.Buckets.{bucket_block}
use Rattle.treefs_lookup.specs.Names.{entry_found}
use Rattle.treefs_lookup.specs.Readable.{readable}
use Rattle.treefs_lookup.specs.declared.names.Slot.{Slot}
use Rattle.treefs_lookup.specs.Sought.{AreWithout, has_live}
use Rattle.treefs_lookup.specs.declared.sought.Sought.TheVariants.{Live}
use Rattle.treefs_edits.specs.Rooms.{has_room}
use Rattle.treefs_edits.specs.Written.{all_written}
use Rattle.treefs_name_plans.specs.Ends.{directory_ended, end_acts, ended_in, if_directory, name_end}
use Rattle.treefs_name_plans.specs.Links.{link_act}
use Rattle.treefs_name_plans.specs.Removals.{HasBucket, IsRemoval, IsRemovalPlanned, IsRmdirPlanned, first_of}
use Rattle.treefs_name_plans.specs.declared.ended.Ended.{Ended}
use Rattle.treefs_name_plans.specs.declared.name_end.NameEnd.{NameEnd}
use Rattle.treefs_name_plans.specs.declared.removal.RemovalPlan.{RemovalPlan}
use Rattle.treefs.specs.Remembered.{ended_memory}
use Rattle.treefs.specs.Unlinking.{RmdirDoes}
use Rattle.treefs.specs.declared.volume.Volume.{Volume}
use Rattle.treefs_values.specs.Kinds.{kinds}
use Rattle.treefs_values.specs.Values.{KeepsBlocks, found_value}
use Rattle.treefs_values.specs.Ways.{block_numbered}
use Rattle.treefs_values.proofs.ForCallers.{IsEntry, acts_read, candidates_few, entry_is, found_inode}
use Rattle.treefs_laws.specs.Kept.{HasNoNames, IsKept, files_in}
use Rattle.treefs_laws.specs.Seen.{seen_inode}
use Rattle.treefs_laws.proofs.NamesEnd.{ended_files, ended_kept, inode_seen, number_is, seen_there}
use Rattle.treefs_laws.proofs.Planned.{ended_is, ran_acts, same_done, then_ok, waits_write}

-- A directory without live records

no_live : (name : List ℕ) (rs : List Record) → list_any (λ r. is_live r.entry) rs ≡ false → find (λ r. is_live r.entry && has_name name r) rs ≡ None
no_live name [] none = refl
no_live name (r ∷ rs) none = by (is_live r.entry) refl none (no_live name rs)
  where
    by : (b : Bool) → is_live r.entry ≡ b → list_any (λ r. is_live r.entry) (r ∷ rs) ≡ false →
        (list_any (λ r. is_live r.entry) rs ≡ false → find (λ r. is_live r.entry && has_name name r) rs ≡ None) →
        find (λ r. is_live r.entry && has_name name r) (r ∷ rs) ≡ None
    by true is none rest = absurd (cc (sym (ap (λ b. b || list_any (λ (x : Record). is_live x.entry) rs) is) ∙ none))
    by false is none rest =
        rw is (rest (sym (ap (λ b. b || list_any (λ (x : Record). is_live x.entry) rs) is) ∙ none))

module _ (content : ℕ → List ℕ) (c : ℕ) (name : List ℕ) where
  none_among : (buckets : List ℕ) → ((k : ℕ) → Contains buckets k → live_record (bucket_of content c k) name ≡ None) → number_among content c name buckets ≡ None
  none_among [] none = refl
  none_among (k ∷ buckets) none =
      rw (none k (Contains-head k buckets)) (none_among buckets (λ j has. none j (Contains-tail k buckets j has)))

module _ (state : StoreState) (fs c : ℕ) (some : c ≢ 0) (without : AreWithout state fs c Live 0 (leaf_count + 1)) (name : List ℕ) where
  abbrev content : ℕ → List ℕ
  content = readable state fs

  none_at : (k : ℕ) → k ≤ leaf_count → live_record (bucket_of content c k) name ≡ None
  none_at k few = by (cases_eq (bucket_block content c k) 0) (without k (omega arith) (omega arith))
    where
      by : (bucket_block content c k ≡ 0) ⊎ (bucket_block content c k ≢ 0) →
          (not (bucket_block content c k == 0) && has_live (bucket_of content c k)) ≡ false → live_record (bucket_of content c k) name ≡ None
      by (inl z) none = empty_bucket (cases_eq k 0) z
        where
          empty_bucket : (k ≡ 0) ⊎ (k ≢ 0) → bucket_block content c k ≡ 0 → live_record (bucket_of content c k) name ≡ None
          empty_bucket (inl first) z = absurd (some (ap (λ t. if t then c else leaf_block content c (k - 1)) (sym (eq-eqb k 0 first)) ∙ z))
          empty_bucket (inr other) z = rw (ne_eqb k 0 other) (rw (sym (ap (λ t. if t then c else leaf_block content c (k - 1)) (ne_eqb k 0 other)) ∙ z) (rw (no_length [] refl) refl))
      by (inr there) none = no_live name (records_of (bucket_of content c k)) (ap (λ b. not b && has_live (bucket_of content c k)) (sym (ne_eqb (bucket_block content c k) 0 there)) ∙ none)

  pub no_names : (key : List ℕ) → number_of content key c name ≡ None
  no_names key = none_among content c name (candidates (name_hash key name)) (λ k has. none_at k (candidates_few (name_hash key name) k has))

-- The block of a record

module _ (T : Types) (state : StoreState) (volume : Volume) (kept : IsKept T state volume) (d : ℕ) (name : List ℕ) (slot : Slot)
    (slot_is : entry_found (readable state volume.tree.fs.number) volume.tree.top d name ≡ Ok slot) where
  abbrev bytes_of : ℕ → List ℕ
  bytes_of = readable state volume.tree.fs.number

  abbrev c : ℕ
  c = block_numbered bytes_of volume.tree.top d

  e : IsEntry bytes_of volume.tree.top d name slot
  e = entry_is bytes_of volume.tree.top d name slot slot_is

  typed_some : (b t : ℕ) → kinds state volume.tree.fs.number b ≡ t → t ≢ 0 → 0 < length (bytes_of b)
  typed_some b t is some = let long = (kept.bytes.blocks b (λ z. some (sym is ∙ z))).0 in omega arith

  in_leaf : e.bucket ≢ 0 → 0 < length (bytes_of (leaf_block bytes_of c (e.bucket - 1)))
  in_leaf other = by (cases_eq (leaf_block bytes_of c (e.bucket - 1)) 0)
    where
      by : (leaf_block bytes_of c (e.bucket - 1) ≡ 0) ⊎ (leaf_block bytes_of c (e.bucket - 1) ≢ 0) → 0 < length (bytes_of (leaf_block bytes_of c (e.bucket - 1)))
      by (inl z) =
          let empty : bucket_of bytes_of c e.bucket ≡ [] = rw (ne_eqb e.bucket 0 other) (rw z refl) in
          absurd (Contains-none e.record_of (subst (λ es. Contains (placed 0 es) e.record_of) (no_length [] refl) (subst (λ m. Contains (records_of m) e.record_of) empty e.slot_is.of.there)))
      by (inr some) =
          let few = candidates_few (name_hash (key_in bytes_of volume.tree.top) name) e.bucket e.candidate in
          typed_some (leaf_block bytes_of c (e.bucket - 1)) 2 (kept.bytes.typed.leaves d (e.bucket - 1) e.number (omega arith) some) (λ z. absurd (omega (arith, z)))

  pub block_some : 0 < length (bytes_of slot.block)
  block_some = subst (λ b. 0 < length (bytes_of b)) (sym e.slot_is.block) (by (cases_eq e.bucket 0))
    where
      by : (e.bucket ≡ 0) ⊎ (e.bucket ≢ 0) → 0 < length (bytes_of (bucket_block bytes_of c e.bucket))
      by (inl first) =
          subst (λ b. 0 < length (bytes_of b)) (sym (ap (λ t. if t then c else leaf_block bytes_of c (e.bucket - 1)) (eq-eqb e.bucket 0 first)))
          (typed_some c volume.tree.inode_type (kept.bytes.typed.inodes d e.there) kept.bytes.some_types.1)
      by (inr other) =
          subst (λ b. 0 < length (bytes_of b)) (sym (ap (λ t. if t then c else leaf_block bytes_of c (e.bucket - 1)) (ne_eqb e.bucket 0 other))) (in_leaf other)

-- What was planned

module _ (state : StoreState) (volume : Volume) (d : ℕ) (name : List ℕ) (plan : RemovalPlan) where
  abbrev bytes_in : ℕ → List ℕ
  bytes_in = readable state volume.tree.fs.number

  -- the name of a directory without names is found, and ends
  pub record IsPlanned : Type 0 where
    pub ended : Ended
    pub found_so : ended_in bytes_in volume.tree.top d name ≡ Ok ended
    pub directory : ended.inode.kind ≡ kind.Directory
    pub without : AreWithout state volume.tree.fs.number ended.inode.block Live 0 (leaf_count + 1)
    pub end_is : plan.end ≡ name_end volume.memory ended
    pub first_is : plan.first ≡ slice_index (bytes_in ended.slot.block) 0

  of_directory : (e ended : Ended) (k : Kind) → e.inode.kind ≡ k → if_directory e k ≡ Ok ended → (e ≡ ended) × (e.inode.kind ≡ kind.Directory)
  of_directory e ended kind.Directory is done = (same_done e ended done, is)
  of_directory e ended kind.File is done = absurd (cc done)
  of_directory e ended kind.SymbolicLink is done = absurd (cc done)

  abbrev answer : Result RemovalPlan Fault
  answer = Ok plan

  in_room : (ended : Ended) (pending : List ℕ) (b : Bool) →
      MatchBool b (MatchResult answer (IsRemoval state volume.tree.fs.number volume.memory ended pending) (λ fault. ⊥))
      (answer ≡ Err Full) → IsRemoval state volume.tree.fs.number volume.memory ended pending plan
  in_room ended pending true is = is
  in_room ended pending false full = absurd (cc full)

  is_removal : (ended : Ended) → IsRemovalPlanned state volume.tree.fs.number volume.memory ended (Ok plan) →
      (pending : List ℕ) × IsRemoval state volume.tree.fs.number volume.memory ended pending plan
  is_removal ended (inl (many, e)) = absurd (cc e)
  is_removal ended (inr (pending, are, is)) = (
    pending,
    in_room ended pending (has_room state volume.tree.fs.number (length volume.memory.touched) (4 + length pending)
        ((ended.slot.block, 1 + length pending) ∷ (ended.inode.block, 1) ∷ [])) is,
  )

  planned_removal : IsRmdirPlanned state volume.tree volume.memory d name (Ok plan) → IsPlanned
  planned_removal planned = by (directory_ended bytes_in volume.tree.top d name) refl planned
    where
      by : (r : Result Ended Fault) → directory_ended bytes_in volume.tree.top d name ≡ r →
          MatchResult r (λ ended. (live : Bool) × HasBucket state volume.tree.fs.number ended.inode.block Live live
          × MatchBool live (answer ≡ Err NotEmpty) (IsRemovalPlanned state volume.tree.fs.number volume.memory ended (Ok plan)))
          (λ fault. answer ≡ Err fault) → IsPlanned
      by (Err fault) is e = absurd (cc e)
      by (Ok ended) is (true, has, e) = absurd (cc e)
      by (Ok ended) is (false, none, planned) =
          let x = then_ok (ended_in bytes_in volume.tree.top d name) (λ (e : Ended). if_directory e e.inode.kind) ended is in
          let n = of_directory x.0 ended x.0.inode.kind refl x.2 in
          let removal = is_removal ended planned in
          record {
            ended = ended;
            found_so = x.1 ∙ ap Ok n.0;
            directory = ap (λ (e : Ended). e.inode.kind) (sym n.0) ∙ n.1;
            without = none;
            end_is = removal.1.end_is;
            first_is = removal.1.first_is;
          }

-- What it makes of the volume

is_one : (content : ℕ → List ℕ) (key : List ℕ) (block parent : ℕ) (k : Kind) → k ≡ kind.Directory →
    content_at content key block parent k ≡ Directory parent (number_of content key block)
is_one content key block parent kind.Directory is = refl
is_one content key block parent kind.File is = absurd (cc is)
is_one content key block parent kind.SymbolicLink is = absurd (cc is)

abbrev some_names : Names → Content → Names
some_names other (Directory parent names) = names
some_names other (File bytes) = other
some_names other (SymbolicLink bytes) = other

module _ (T : Types) (state state' : StoreState) (volume volume' : Volume) (d : ℕ) (name : List ℕ) (kept : IsKept T state volume) where
  abbrev fs : ℕ
  fs = volume.tree.fs.number

  abbrev seen : Files
  seen = files_in state volume

  abbrev Said : Volume → Type 0
  Said v = IsKept T state' v × (n : ℕ) × (number_in seen d name ≡ Ok n) × HasNoNames seen n
      × (removed seen volume.memory.clock d name true ≡ Ok (files_in state' v))

  abbrev acts_of : RemovalPlan → NameEnd → List Act
  acts_of plan end = map (wait_act end.block (plan.first ∷ [])) (drop 1 plan.pending.items) ++ end_acts end (first_of plan.pending.items)

  keeps : (end : NameEnd) (first : ℕ) (others : List ℕ) (behind : Option ℕ) → All KeepsBlocks (map (wait_act end.block (first ∷ [])) others ++ end_acts end behind)
  keeps end first [] behind =
      All-cons KeepsBlocks (number_act end.block end.offset 0 behind) (link_act end.fewer end.block ∷ []) refl
      (All-cons KeepsBlocks (link_act end.fewer end.block) [] refl (All-nil KeepsBlocks))
  keeps end first (other ∷ others) behind =
      All-cons KeepsBlocks (wait_act end.block (first ∷ []) other) (map (wait_act end.block (first ∷ [])) others ++ end_acts end behind) refl (keeps end first others behind)

  by_plan : (plan : RemovalPlan) → IsPlanned state volume d name plan → Ran T fs (acts_of plan plan.end) state state' (Ok tt) →
      volume' ≡ record volume { memory = ended_memory volume.memory d plan.end } → Said volume'
  by_plan plan p ran is =
      let content = readable state fs in
      let ended = p.ended in
      let n = ended.slot.number in
      let end = name_end volume.memory ended in
      let behind = first_of plan.pending.items in
      let at = ended_is content volume.tree.top d name ended p.found_so in
      let made = acts_read T fs (acts_of plan end) state state' kept.store (keeps end plan.first (drop 1 plan.pending.items) behind)
      (subst (λ x. Ran T fs (acts_of plan x) state state' (Ok tt)) p.end_is ran) in
      let bare = waits_write content ended.slot.block plan.first p.first_is (block_some T state volume kept d name ended.slot at.0)
      (drop 1 plan.pending.items) (end_acts end behind) in
      let read : IsConsistent T state' × (readable state' fs ≡ all_written (end_acts end behind) content) × (kinds state' fs ≡ kinds state fs) =
      (made.0, made.1 ∙ bare, made.2) in
      let later_is : record volume { memory = ended_memory volume.memory d end } ≡ volume' =
      sym (is ∙ ap (λ x. record volume { memory = ended_memory volume.memory d x }) p.end_is) in
      let done = without_name seen volume.memory.clock d name n in
      let found_is = found_inode content volume.tree.top n ended.inode at.1 in
      let block_is : ended.inode.block ≢ 0 = λ z. found_is.there (sym found_is.block ∙ z) in
      let key = key_in content volume.tree.top in
      let is_directory_is = is_one content key ended.inode.block ended.inode.fields.parent ended.inode.kind p.directory in
      let number_so = number_is T state state' volume kept d name ended at.0 at.1 behind in
      subst Said later_is (
        ended_kept T state state' volume kept d name ended at.0 at.1 behind read,
        n,
        number_so,
        (λ inode parent names x there content_is.
            let same : seen_inode volume.memory.touched n (found_value content volume.tree.top ended.inode) ≡ inode =
            same_Some (seen_inode volume.memory.touched n (found_value content volume.tree.top ended.inode)) inode
            (sym (seen_there T state state' volume kept d name ended at.0 at.1 behind) ∙ there) in
            ap (λ (i : Content). some_names (λ y. None) i x) (sym content_is ∙ (ap (λ (i : Inode). i.content) (sym same) ∙ is_directory_is))
            ∙ no_names state fs ended.inode.block block_is p.without x key),
        ap (λ r. and_then r (λ n. and_then (found seen n) (λ inode. if not (is_directory inode.content) then Err NotDir
            else when true (without_name seen volume.memory.clock d name n) NotEmpty))) number_so
            ∙ (ap (λ r. and_then r (λ inode. if not (is_directory inode.content) then Err NotDir else when true done NotEmpty))
            (inode_seen T state state' volume kept d name ended at.0 at.1 behind)
            ∙ (ap (λ c. if not (is_directory c) then Err NotDir else when true done NotEmpty) is_directory_is
            ∙ ap Ok (sym (ended_files T state state' volume kept d name ended at.0 at.1 behind read)))),
      )

  pub removed_so : RmdirDoes T state state' volume volume' d name (Ok tt) → Said volume'
  removed_so (Err fault, planned, none, is) = absurd none
  removed_so (Ok plan, planned, does, is) =
      by_plan plan (planned_removal state volume d name plan planned) (ran_acts T fs (acts_of plan plan.end) state state' does) is
