-- What planners found of a new name.
use Rattle.std.proofs.Common.{◌≡◌, ◌≢◌, ◌⊎◌, ℕ, ◌+◌, ◌-◌, ◌<◌, ◌≤◌, Bool, true, false, ◌&&◌, List, [], ◌∷◌, length, drop, Option, None, Some, Result, Ok, Err, refl, sym, ◌∙◌, ap, inl, inr, arith, subst, if◌then◌else◌}
use Rattle.std.specs.Prelude.{Contains, MatchResult, is_some, ◌==◌}
use Rattle.std.specs.List.{list_all}
use Rattle.std.specs.Option.{ok_or}
use Rattle.std.proofs.lemmas.Bool.{cases_eq, eq-eqb, ne_eqb}
use Rattle.xn_model.specs.Lives.{StoreState}
use Rattle.treefs_format.specs.Buckets.{room_without}
use Rattle.treefs_format.specs.Candidates.{candidates, name_hash}
use Rattle.treefs_format.specs.Names.{is_name}
use Rattle.treefs_format.specs.Paths.{leaf_count, steps}
use Rattle.treefs_format.specs.Records.{end_of}
use Rattle.treefs_format.specs.Roots.{leaf_of_inode}
use Rattle.treefs_model.specs.Files.{and_then}
use Rattle.treefs_model.specs.Reading.{bucket_of, key_in, leaf_block}
use Rattle.treefs_model.specs.declared.fault.Fault.{Fault}
use Rattle.treefs_model.specs.declared.fault.Fault.TheVariants.{BadName, Full, NoEntry}
use Rattle.treefs_lookup.specs.Buckets.{bucket_block, bucket_start}
use Rattle.treefs_lookup.specs.Inodes.{directory_found}
use Rattle.treefs_lookup.specs.Names.{named_in, place_of, slot_named}
use Rattle.treefs_lookup.specs.Numbers.{IsNextNumber}
use Rattle.treefs_lookup.specs.Readable.{readable}
use Rattle.treefs_lookup.specs.Walks.{reach}
use Rattle.treefs_lookup.specs.declared.inodes.Found.{Found}
use Rattle.treefs_lookup.specs.declared.names.Slot.{Slot}
use Rattle.treefs_lookup.specs.declared.places.NamePlace.{NamePlace}
use Rattle.treefs_lookup.specs.declared.places.NamePlace.TheVariants as place
use Rattle.treefs_edits.specs.Memories.{Memory}
use Rattle.treefs_edits.specs.Rooms.{has_room, has_room_in}
use Rattle.treefs_edits.specs.declared.tree.Tree.{Tree}
use Rattle.treefs_name_plans.specs.Additions.{old_start}
use Rattle.treefs_name_plans.specs.CommitPlans.{IsCommitPlanned, IsNumberFound, IsNumbered, IsTarget, IsTargetOf, commit_in_room, some_of}
use Rattle.treefs_name_plans.specs.Ends.{ended_in, file_ended, if_no_directory, name_end}
use Rattle.treefs_name_plans.specs.Namings.{IsReplaceable, if_written, naming_in, naming_parts}
use Rattle.treefs_name_plans.specs.NewNames.{addition_at, addition_in, directory_for, free_name, if_free, if_taken, place_in, taken_in}
use Rattle.treefs_name_plans.specs.NewPlans.{IsNewPlanned, free_in_room}
use Rattle.treefs_name_plans.specs.declared.addition.Addition.{Addition}
use Rattle.treefs_name_plans.specs.declared.addition.Addition.TheVariants.{Behind, Rewritten, Made}
use Rattle.treefs_name_plans.specs.declared.addition.NewBucket.{NewBucket}
use Rattle.treefs_name_plans.specs.declared.addition.OldBucket.{OldBucket}
use Rattle.treefs_name_plans.specs.declared.commit_plan.CommitPlan.{CommitPlan}
use Rattle.treefs_name_plans.specs.declared.ended.Ended.{Ended}
use Rattle.treefs_name_plans.specs.declared.name_end.NameEnd.{NameEnd}
use Rattle.treefs_format.specs.declared.kind.Kind.{Kind}
use Rattle.treefs_format.specs.declared.kind.Kind.TheVariants as kind
use Rattle.std.proofs.lemmas.Option.{same_Some}
use Rattle.xn_model.specs.PendingIn.{newest_entry_of}
use Rattle.treefs_name_plans.specs.declared.naming.Naming.TheVariants.{Added, Replaced}
use Rattle.treefs_values.proofs.ForCallers.{AreFree, IsPlace, in_leaf}
use Rattle.treefs_laws.proofs.NewPlaces.{IsPlaceFor, place_for}
use Rattle.treefs_laws.proofs.Planned.{same_done, then_ok}

-- A name that is free

module _ (content : ℕ → List ℕ) (top d : ℕ) (name : List ℕ) where
  pub record IsFreeName (block : ℕ) : Type 0 where
    pub found : Found
    pub found_is : directory_found content top d ≡ Ok found
    pub block_is : found.block ≡ block
    pub named : is_name name ≡ true
    pub no_slot : slot_named content (key_in content top) block name ≡ None

  no_slot : (y : Found) → directory_found content top d ≡ Ok y → is_name name ≡ true → taken_in content top d name ≡ Ok None →
      slot_named content (key_in content top) y.block name ≡ None
  no_slot y y_is h taken = of (slot_named content (key_in content top) y.block name) refl
      (sym (ap if_taken (ap (λ r. and_then r (λ (z : Found). named_in content (key_in content top) name z.block)) y_is
      ∙ ap (λ t. if t then ok_or (slot_named content (key_in content top) y.block name) NoEntry else Err BadName) h)) ∙ taken)
    where
      of : (o : Option Slot) → slot_named content (key_in content top) y.block name ≡ o →
          if_taken (ok_or (slot_named content (key_in content top) y.block name) NoEntry) ≡ Ok None → slot_named content (key_in content top) y.block name ≡ None
      of None g e = g
      of (Some slot) g e = absurd (cc (sym (ap (λ o. if_taken (ok_or o NoEntry)) g) ∙ e))

  -- a directory, of which the name is not taken
  pub free_from : (x : Found) → directory_for content top d name ≡ Ok x → taken_in content top d name ≡ Ok None → IsFreeName x.block
  free_from x is taken =
      let two = then_ok (directory_found content top d) (λ (y : Found). if is_name name then Ok y else Err BadName) x is in
      by two.0 two.1 (is_name name) refl two.2
    where
      by : (y : Found) → directory_found content top d ≡ Ok y → (t : Bool) → is_name name ≡ t →
          ◌≡◌ {A = Result Found Fault} (if is_name name then Ok y else Err BadName) (Ok x) → IsFreeName x.block
      by y y_is false h e = absurd (cc (sym (ap (λ t. if t then Ok y else Err BadName) h) ∙ e))
      by y y_is true h e =
          let same : y ≡ x = same_done y x (sym (ap (λ t. if t then Ok y else Err BadName) h) ∙ e) in
          let block_is : y.block ≡ x.block = ap (λ (z : Found). z.block) same in
          record {
            found = y;
            found_is = y_is;
            block_is = block_is;
            named = h;
            no_slot = subst (λ b. slot_named content (key_in content top) b name ≡ None) block_is (no_slot y y_is h taken);
          }

  pub free_so : (block : ℕ) → free_name content top d name ≡ Ok block → IsFreeName block
  free_so block is =
      let one = then_ok (directory_for content top d name) (λ (x : Found). and_then (taken_in content top d name) (if_free x.block)) block is in
      let x : Found = one.0 in
      let three = then_ok (taken_in content top d name) (if_free x.block) block one.2 in
      by x one.1 three.0 three.1 three.2
    where
      by : (x : Found) → directory_for content top d name ≡ Ok x → (slot : Option Slot) → taken_in content top d name ≡ Ok slot → if_free x.block slot ≡ Ok block → IsFreeName block
      by x x_is (Some slot) taken free = absurd (cc free)
      by x x_is None taken free = subst IsFreeName (same_done x.block block free) (free_from x x_is taken)

-- Where its record goes

module _ (content : ℕ → List ℕ) (key : List ℕ) (node c : ℕ) (name : List ℕ) where
  pub record IsToRewrite (old : OldBucket) : Type 0 where
    pub bucket : ℕ
    pub candidate : Contains (candidates (name_hash key name)) bucket
    pub block_is : old.block ≡ bucket_block content c bucket
    pub start_is : old_start old ≡ bucket_start bucket
    pub bytes_are : drop (old_start old) old.bytes ≡ bucket_of content c bucket
    pub offset_is : old.offset ≡ bucket_start bucket + (length (bucket_of content c bucket) - room_without (bucket_of content c bucket))
    pub full : 0 < end_of (bucket_of content c bucket)
    pub fits : 5 + length name ≤ room_without (bucket_of content c bucket)
    pub none : AreFree content key c name

  pub record IsToMake (made : NewBucket) : Type 0 where
    pub candidate : Contains (candidates (name_hash key name)) (made.leaf + 1)
    pub few : made.leaf < leaf_count
    pub free : leaf_block content c made.leaf ≡ 0
    pub owner_is : made.owner ≡ (reach content c (steps made.leaf)).block
    pub missing_is : made.missing ≡ (reach content c (steps made.leaf)).missing
    pub node_is : made.node_type ≡ node
    pub none : AreFree content key c name

  abbrev pub IsAddition : Addition → Type 0
  IsAddition (Behind block offset) = IsPlace content key c name block offset
  IsAddition (Rewritten old) = IsToRewrite old
  IsAddition (Made made) = IsToMake made

module _ (state : StoreState) (tree : Tree) (d c : ℕ) (name : List ℕ) (c_some : c ≢ 0)
    (few_of : (k : ℕ) → Contains (candidates (name_hash (key_in (readable state tree.fs.number) tree.top) name)) k → k ≤ leaf_count) where
  abbrev bytes : ℕ → List ℕ
  bytes = readable state tree.fs.number

  abbrev key : List ℕ
  key = key_in bytes tree.top

  addition_so : (p : NamePlace) → IsPlaceFor state tree.fs.number key c name c_some p → IsAddition bytes key tree.node_type c name (addition_at bytes tree.node_type c p)
  addition_so (place.DeadRecord block offset) is = is
  addition_so (place.Behind block offset) is = is
  addition_so (place.Rewritten block start offset) is = elim (cases_eq is.bucket 0) [
    | inl z ↦
        let start_is : start ≡ 128 = is.start_is ∙ ap bucket_start z in
        let block_is : block ≡ c = is.block_is ∙ ap (λ t. if t then c else leaf_block bytes c (is.bucket - 1)) (eq-eqb is.bucket 0 z) in
        let in_inode : (if start == 128 then 128 else 0) ≡ 128 = ap (λ t. if t then 128 else 0) (eq-eqb start 128 start_is) in
        record {
          bucket = is.bucket;
          candidate = is.candidate;
          block_is = is.block_is;
          start_is = in_inode ∙ sym (ap bucket_start z);
          bytes_are = (λ j. drop (in_inode j) (bytes (block_is j))) ∙ sym (ap (bucket_of bytes c) z);
          offset_is = is.offset_is;
          full = is.full;
          fits = is.fits;
          none = is.none;
        }
    | inr other ↦
        let zero_start : bucket_start is.bucket ≡ 0 = ap (λ t. if t then 128 else 0) (ne_eqb is.bucket 0 other) in
        let start_is : start ≡ 0 = is.start_is ∙ zero_start in
        let in_inode : (if start == 128 then 128 else 0) ≡ 0 = ap (λ t. if t then 128 else 0) (ne_eqb start 128 (λ e. absurd (omega (arith, e, start_is)))) in
        let leaf_is : bucket_block bytes c is.bucket ≡ leaf_block bytes c (is.bucket - 1) = ap (λ t. if t then c else leaf_block bytes c (is.bucket - 1)) (ne_eqb is.bucket 0 other) in
        let bucket_is : bucket_of bytes c is.bucket ≡ bytes (leaf_block bytes c (is.bucket - 1)) =
        in_leaf bytes c is.bucket other ∙ ap (λ t. if t then [] else bytes (leaf_block bytes c (is.bucket - 1))) (ne_eqb (leaf_block bytes c (is.bucket - 1)) 0 (λ z. is.there (leaf_is ∙ z))) in
        record {
          bucket = is.bucket;
          candidate = is.candidate;
          block_is = is.block_is;
          start_is = in_inode ∙ sym zero_start;
          bytes_are = (λ j. drop (in_inode j) (bytes ((is.block_is ∙ leaf_is) j))) ∙ sym bucket_is;
          offset_is = is.offset_is;
          full = is.full;
          fits = is.fits;
          none = is.none;
        }
  ]
  addition_so (place.NewBucket bucket) is =
      let few = few_of bucket is.candidate in
      let same : bucket - 1 + 1 ≡ bucket = (let some = is.some in omega arith) in
      record {
        candidate = subst (λ k. Contains (candidates (name_hash key name)) k) (sym same) is.candidate;
        few = (let some = is.some in omega arith);
        free = is.missing;
        owner_is = refl;
        missing_is = refl;
        node_is = refl;
        none = is.none;
      }

  pub addition_is : IsFreeName bytes tree.top d name c → (addition : Addition) → addition_in state tree d c name ≡ Ok addition → IsAddition bytes key tree.node_type c name addition
  addition_is free addition is =
      let one = then_ok (place_in state tree.fs.number tree.top d name) (λ p. Ok (addition_at bytes tree.node_type c p)) addition is in
      let two = then_ok (directory_found bytes tree.top d) (λ (x : Found). place_of state tree.fs.number key x.block name) one.0 one.1 in
      let same : two.0 ≡ free.found = same_done two.0 free.found (sym two.1 ∙ free.found_is) in
      let placed : place_of state tree.fs.number key c name ≡ Ok one.0 =
      ap (λ b. place_of state tree.fs.number key b name) (sym (ap (λ (x : Found). x.block) same ∙ free.block_is)) ∙ two.2 in
      subst (IsAddition bytes key tree.node_type c name) (same_done (addition_at bytes tree.node_type c one.0) addition one.2)
      (addition_so one.0 (place_for state tree.fs.number key c name c_some free.no_slot one.0 placed))

-- What is planned

module _ (state : StoreState) (tree : Tree) (memory : Memory) (d : ℕ) (name : List ℕ) where
  abbrev contents : ℕ → List ℕ
  contents = readable state tree.fs.number

  abbrev pub commit_of : ℕ → ℕ → Addition → CommitPlan
  commit_of n directory addition = record {
    number = n;
    directory = directory;
    node_type = tree.node_type;
    inode_type = tree.inode_type;
    owner = (reach contents tree.top (steps (leaf_of_inode n))).block;
    missing = (reach contents tree.top (steps (leaf_of_inode n))).missing;
    naming = Added addition;
  }

  pub record IsNewPlan (plan : CommitPlan) : Type 0 where
    pub directory : ℕ
    pub free : IsFreeName contents tree.top d name directory
    pub n : ℕ
    pub next : IsNextNumber state tree.fs.number tree.top memory.hint n
    pub addition : Addition
    pub addition_found : addition_in state tree d directory name ≡ Ok addition
    pub plan_is : plan ≡ commit_of n directory addition

  in_room : (edits n directory : ℕ) (addition : Addition) (commit : CommitPlan) → commit_in_room state tree memory edits n directory (Added addition) ≡ Ok commit →
      commit ≡ commit_of n directory addition
  in_room edits n directory addition commit is =
      by (has_room state tree.fs.number (length memory.touched) edits (naming_parts (Added addition) directory)
      && list_all (has_room_in state) (((reach contents tree.top (steps (leaf_of_inode n))).block, 2) ∷ [])) is
    where
      by : (t : Bool) → ◌≡◌ {A = Result CommitPlan Fault} (if t then Ok (commit_of n directory addition) else Err Full) (Ok commit) → commit ≡ commit_of n directory addition
      by true e = sym (same_done (commit_of n directory addition) commit e)
      by false e = absurd (cc e)

  abbrev named_by : ℕ → ℕ → Addition → Result CommitPlan Fault
  named_by n directory a = commit_in_room state tree memory 31 n directory (Added a)

  pub new_planned : (plan : CommitPlan) → IsNewPlanned state tree memory d name (Ok plan) → IsNewPlan plan
  new_planned plan planned = by (free_in_room state tree memory d name) refl planned
    where
      free_of : (directory : ℕ) → free_in_room state tree memory d name ≡ Ok directory → IsFreeName contents tree.top d name directory
      free_of directory is =
          let one = then_ok (free_name contents tree.top d name) (λ b. if has_room state tree.fs.number (length memory.touched) 2 [] then Ok b else Err Full) directory is in
          roomy one.0 (has_room state tree.fs.number (length memory.touched) 2 []) (free_so contents tree.top d name one.0 one.1) one.2
        where
          roomy : (b : ℕ) (t : Bool) → IsFreeName contents tree.top d name b → ◌≡◌ {A = Result ℕ Fault} (if t then Ok b else Err Full) (Ok directory) →
              IsFreeName contents tree.top d name directory
          roomy b true free e = subst (IsFreeName contents tree.top d name) (same_done b directory e) free
          roomy b false free e = absurd (cc e)

      by : (r : Result ℕ Fault) → free_in_room state tree memory d name ≡ r →
          MatchResult r (λ directory. (number : Result ℕ Fault) × IsNumberFound state tree memory number
          × (◌≡◌ {A = Result CommitPlan Fault} (Ok plan) (and_then number (λ n. and_then (addition_in state tree d directory name) (named_by n directory)))))
          (λ fault. ◌≡◌ {A = Result CommitPlan Fault} (Ok plan) (Err fault)) → IsNewPlan plan
      by (Err fault) is e = absurd (cc e)
      by (Ok directory) is (Err fault, number, e) = absurd (cc e)
      by (Ok directory) is (Ok n, number, e) =
          let one = then_ok (addition_in state tree d directory name) (named_by n directory) plan (sym e) in
          record {
            directory = directory;
            free = free_of directory is;
            n = n;
            next = number;
            addition = one.0;
            addition_found = one.1;
            plan_is = in_room 31 n directory one.0 plan one.2;
          }

  -- of an inode that was begun, where nothing is replaced

  pub record IsFirstPlan (plan : CommitPlan) : Type 0 where
    pub directory : ℕ
    pub free : IsFreeName contents tree.top d name directory
    pub n : ℕ
    pub next : IsNextNumber state tree.fs.number tree.top memory.hint n
    pub addition : Addition
    pub addition_found : addition_in state tree d directory name ≡ Ok addition
    pub plan_is : plan ≡ commit_of n directory addition

  first_of_free : (plan : CommitPlan) (directory : ℕ) → IsFreeName contents tree.top d name directory → IsNumbered state tree memory d directory name (Ok plan) None → IsFirstPlan plan
  first_of_free plan directory free (Err fault, number, e) = absurd (cc e)
  first_of_free plan directory free (Ok n, number, e) =
      let one = then_ok (naming_in state tree d directory name None) (commit_in_room state tree memory 30 n directory) plan (sym e) in
      let two = then_ok (addition_in state tree d directory name) (λ addition. Ok (Added addition)) one.0 one.1 in
      record {
        directory = directory;
        free = free;
        n = n;
        next = number;
        addition = two.0;
        addition_found = two.1;
        plan_is = in_room 30 n directory two.0 plan
            (subst (λ naming. commit_in_room state tree memory 30 n directory naming ≡ Ok plan) (sym (same_done (Added two.0) one.0 two.2)) one.2);
      }

  pub first_planned : (plan : CommitPlan) → IsCommitPlanned state tree memory d name false (Ok plan) → IsFirstPlan plan
  first_planned plan planned = by (directory_for contents tree.top d name) refl planned
    where
      by_taken : (x : Found) → directory_for contents tree.top d name ≡ Ok x → (target : Option NameEnd) → (r : Result (Option Slot) Fault) → taken_in contents tree.top d name ≡ r →
          MatchResult r (IsTargetOf state tree memory d name false (Ok target)) (λ fault. ◌≡◌ {A = Result (Option NameEnd) Fault} (Ok target) (Err fault)) →
          IsNumbered state tree memory d x.block name (Ok plan) target → IsFirstPlan plan
      by_taken x is target (Err fault) taken e rest = absurd (cc e)
      by_taken x is target (Ok (Some slot)) taken e rest = absurd (cc e)
      by_taken x is (Some end) (Ok None) taken e rest = absurd (cc e)
      by_taken x is None (Ok None) taken e rest = first_of_free plan x.block (free_from contents tree.top d name x is taken) rest

      by : (r : Result Found Fault) → directory_for contents tree.top d name ≡ r →
          MatchResult r (λ x. (target : Result (Option NameEnd) Fault) × IsTarget state tree memory d name false target
          × MatchResult target (IsNumbered state tree memory d x.block name (Ok plan)) (λ fault. ◌≡◌ {A = Result CommitPlan Fault} (Ok plan) (Err fault)))
          (λ fault. ◌≡◌ {A = Result CommitPlan Fault} (Ok plan) (Err fault)) → IsFirstPlan plan
      by (Err fault) is e = absurd (cc e)
      by (Ok x) is (Err fault, is_target, rest) = absurd (cc rest)
      by (Ok x) is (Ok target, is_target, rest) = by_taken x is target (taken_in contents tree.top d name) refl is_target rest

  -- where what has the name is replaced

  abbrev pub replacing_of : ℕ → ℕ → NameEnd → CommitPlan
  replacing_of n directory end = record {
    number = n;
    directory = directory;
    node_type = tree.node_type;
    inode_type = tree.inode_type;
    owner = (reach contents tree.top (steps (leaf_of_inode n))).block;
    missing = (reach contents tree.top (steps (leaf_of_inode n))).missing;
    naming = Replaced end;
  }

  pub record IsSecondPlan (plan : CommitPlan) : Type 0 where
    pub directory : ℕ
    pub ended : Ended
    pub found_so : ended_in contents tree.top d name ≡ Ok ended
    pub no_directory : ended.inode.kind ≢ kind.Directory
    pub n : ℕ
    pub next : IsNextNumber state tree.fs.number tree.top memory.hint n
    pub plan_is : plan ≡ replacing_of n directory (name_end memory ended)

  in_room_for : (edits n directory : ℕ) (end : NameEnd) (commit : CommitPlan) → commit_in_room state tree memory edits n directory (Replaced end) ≡ Ok commit →
      commit ≡ replacing_of n directory end
  in_room_for edits n directory end commit is =
      by (has_room state tree.fs.number (length memory.touched) edits (naming_parts (Replaced end) directory)
      && list_all (has_room_in state) (((reach contents tree.top (steps (leaf_of_inode n))).block, 2) ∷ [])) is
    where
      by : (t : Bool) → ◌≡◌ {A = Result CommitPlan Fault} (if t then Ok (replacing_of n directory end) else Err Full) (Ok commit) → commit ≡ replacing_of n directory end
      by true e = sym (same_done (replacing_of n directory end) commit e)
      by false e = absurd (cc e)

  no_directory_in : (x ended : Ended) (k : Kind) → x.inode.kind ≡ k → if_no_directory x k ≡ Ok ended → (x ≡ ended) × (x.inode.kind ≢ kind.Directory)
  no_directory_in x ended kind.Directory is done = absurd (cc done)
  no_directory_in x ended kind.File is done = (same_done x ended done, λ z. absurd (cc (sym is ∙ z)))
  no_directory_in x ended kind.SymbolicLink is done = (same_done x ended done, λ z. absurd (cc (sym is ∙ z)))

  second_of : (plan : CommitPlan) (directory : ℕ) (end : NameEnd) (ended : Ended) → file_ended contents tree.top d name ≡ Ok ended → end ≡ name_end memory ended →
      IsNumbered state tree memory d directory name (Ok plan) (Some end) → IsSecondPlan plan
  second_of plan directory end ended is end_is (Err fault, number, e) = absurd (cc e)
  second_of plan directory end ended is end_is (Ok n, number, e) =
      let x = then_ok (ended_in contents tree.top d name) (λ (x : Ended). if_no_directory x x.inode.kind) ended is in
      let k = no_directory_in x.0 ended x.0.inode.kind refl x.2 in
      record {
        directory = directory;
        ended = ended;
        found_so = x.1 ∙ ap Ok k.0;
        no_directory = λ z. k.1 (ap (λ (x : Ended). x.inode.kind) k.0 ∙ z);
        n = n;
        next = number;
        plan_is = in_room_for 30 n directory end plan (sym e) ∙ ap (replacing_of n directory) end_is;
      }

  pub written_end : (end : NameEnd) (ended : Ended) (other : Result (Option ℕ) Fault) →
      ◌≡◌ {A = Result NameEnd Fault} (Ok end) (and_then other (if_written state (name_end memory ended))) → end ≡ name_end memory ended
  written_end end ended (Err fault) e = absurd (cc e)
  written_end end ended (Ok None) e = same_done end (name_end memory ended) e
  written_end end ended (Ok (Some block)) e = by (is_some (newest_entry_of state block)) e
    where
      by : (t : Bool) → ◌≡◌ {A = Result NameEnd Fault} (Ok end) (if t then Err Full else Ok (name_end memory ended)) → end ≡ name_end memory ended
      by true e = absurd (cc e)
      by false e = same_done end (name_end memory ended) e

  pub second_planned : (plan : CommitPlan) → IsCommitPlanned state tree memory d name true (Ok plan) → IsFirstPlan plan ⊎ IsSecondPlan plan
  second_planned plan planned = by (directory_for contents tree.top d name) refl planned
    where
      by_ended : (x : Found) (end : NameEnd) (r : Result Ended Fault) → file_ended contents tree.top d name ≡ r → (answer : Result NameEnd Fault) →
          MatchResult r (λ ended. IsReplaceable state tree.fs.number memory ended answer) (λ fault. answer ≡ Err fault) →
          ◌≡◌ {A = Result (Option NameEnd) Fault} (Ok (Some end)) (some_of answer) → IsNumbered state tree memory d x.block name (Ok plan) (Some end) → IsSecondPlan plan
      by_ended x end (Err fault) is (Err other) e same rest = absurd (cc same)
      by_ended x end (Err fault) is (Ok other) e same rest = absurd (cc e)
      by_ended x end (Ok ended) is (Err other) e same rest = absurd (cc same)
      by_ended x end (Ok ended) is (Ok other) e same rest =
          second_of plan x.block end ended is (same_Some end other (same_done (Some end) (Some other) same) ∙ written_end other ended e.0 e.2) rest

      by_taken : (x : Found) → directory_for contents tree.top d name ≡ Ok x → (target : Option NameEnd) → (r : Result (Option Slot) Fault) → taken_in contents tree.top d name ≡ r →
          MatchResult r (IsTargetOf state tree memory d name true (Ok target)) (λ fault. ◌≡◌ {A = Result (Option NameEnd) Fault} (Ok target) (Err fault)) →
          IsNumbered state tree memory d x.block name (Ok plan) target → IsFirstPlan plan ⊎ IsSecondPlan plan
      by_taken x is target (Err fault) taken e rest = absurd (cc e)
      by_taken x is None (Ok (Some slot)) taken (Err fault, replaced, e) rest = absurd (cc e)
      by_taken x is None (Ok (Some slot)) taken (Ok end, replaced, e) rest = absurd (cc e)
      by_taken x is (Some end) (Ok (Some slot)) taken e rest = inr (by_ended x end (file_ended contents tree.top d name) refl e.0 e.1 e.2 rest)
      by_taken x is (Some end) (Ok None) taken e rest = absurd (cc e)
      by_taken x is None (Ok None) taken e rest = inl (first_of_free plan x.block (free_from contents tree.top d name x is taken) rest)

      by : (r : Result Found Fault) → directory_for contents tree.top d name ≡ r →
          MatchResult r (λ x. (target : Result (Option NameEnd) Fault) × IsTarget state tree memory d name true target
          × MatchResult target (IsNumbered state tree memory d x.block name (Ok plan)) (λ fault. ◌≡◌ {A = Result CommitPlan Fault} (Ok plan) (Err fault)))
          (λ fault. ◌≡◌ {A = Result CommitPlan Fault} (Ok plan) (Err fault)) → IsFirstPlan plan ⊎ IsSecondPlan plan
      by (Err fault) is e = absurd (cc e)
      by (Ok x) is (Err fault, is_target, rest) = absurd (cc rest)
      by (Ok x) is (Ok target, is_target, rest) = by_taken x is target (taken_in contents tree.top d name) refl is_target rest
