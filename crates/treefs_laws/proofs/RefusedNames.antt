-- Calls on names that are refused answer what the files say, or that something is wanting.
use Rattle.std.proofs.Common.{◌≡◌, ◌⊎◌, ℕ, ℤ, ◌-◌, ◌^◌, Bool, true, false, List, [], ◌∷◌, ◌++◌, Option, None, Some, Result, Ok, Err, refl, sym, ◌∙◌, ap, inl, inr, subst, if◌then◌else◌}
use Rattle.std.specs.Prelude.{MatchBool, MatchResult, is_some, length, option_map, ◌==◌}
use Rattle.std.specs.List.{list_any}
use Rattle.std.specs.Option.{ok_or}
use Rattle.xn_model.specs.Types.{Types}
use Rattle.xn_model.specs.Calls.{read_of}
use Rattle.xn_model.specs.Lives.{StoreState}
use Rattle.xn_model.specs.PendingIn.{newest_entry_of}
use Rattle.store_types.specs.declared.refusal.Refusal.{Refusal}
use Rattle.store_types.specs.declared.refusal.Refusal.TheVariants as refusal
use Rattle.treefs_format.specs.Candidates.{candidates, name_hash}
use Rattle.treefs_format.specs.Names.{is_name}
use Rattle.treefs_model.specs.Changes.{linkable, linked, lost, made, more_links as add_link, new_name, replaceable, replaced, touched as touched_inode}
use Rattle.treefs_model.specs.Files.{Files, Inode, Names, and_then, changed_at, found, names_for, with_name}
use Rattle.treefs_model.specs.Reading.{bucket_of, key_in, number_of}
use Rattle.treefs_model.specs.declared.fault.Fault.{Fault}
use Rattle.treefs_model.specs.declared.fault.Fault.TheVariants.{BadName, Exists, Full, Kernel, NoEntry, TooLarge}
use Rattle.treefs_lookup.specs.Inodes.{directory_found}
use Rattle.treefs_lookup.specs.Names.{dead_place, fits_without, free_place, place_or, room_at, first_some, slot_named}
use Rattle.treefs_lookup.specs.Readable.{readable}
use Rattle.treefs_lookup.specs.declared.inodes.Found.{Found}
use Rattle.treefs_lookup.specs.declared.names.Slot.{Slot}
use Rattle.treefs_lookup.specs.declared.places.NamePlace.{NamePlace}
use Rattle.treefs_edits.specs.Memories.{Memory}
use Rattle.treefs_edits.specs.Plans.{Begins, Does, DoesPlanned, Plan, start_fault}
use Rattle.treefs_edits.specs.Rooms.{has_room}
use Rattle.treefs_edits.specs.declared.start.Start.{Start}
use Rattle.treefs_edits.specs.declared.tree.Tree.{Tree}
use Rattle.treefs_name_plans.specs.CommitPlans.{IsCommitPlanned, IsNumberFound, IsNumbered, IsTarget, IsTargetOf, commit_in_room, commit_plan}
use Rattle.treefs_name_plans.specs.Ends.{IsOtherBucket, ends_alone, file_ended, name_end}
use Rattle.treefs_name_plans.specs.LinkPlans.{link_in_room, link_plan, link_planned, linkable as plan_linkable, more_links, one_more}
use Rattle.treefs_name_plans.specs.Namings.{IsReplaceable, if_written, naming_in}
use Rattle.treefs_name_plans.specs.NewNames.{addition_at, addition_in, directory_for, free_name, if_free, place_in, taken_in}
use Rattle.treefs_name_plans.specs.NewPlans.{IsNewPlanned, free_in_room, new_plan}
use Rattle.treefs_name_plans.specs.declared.addition.Addition.{Addition}
use Rattle.treefs_name_plans.specs.declared.commit_plan.CommitPlan.{CommitPlan}
use Rattle.treefs_name_plans.specs.declared.ended.Ended.{Ended}
use Rattle.treefs_name_plans.specs.declared.link_change.LinkChange.{LinkChange}
use Rattle.treefs_name_plans.specs.declared.link_plan.LinkPlan.{LinkPlan}
use Rattle.treefs_name_plans.specs.declared.name_end.NameEnd.{NameEnd}
use Rattle.treefs_name_plans.specs.declared.naming.Naming.{Naming}
use Rattle.treefs_name_plans.specs.declared.naming.Naming.TheVariants.{Added}
use Rattle.treefs.specs.Committing.{CommitDoes, committed_volume, if_readable}
use Rattle.treefs.specs.Creating.{CreateDoes, MkdirDoes, NewDoes, SymlinkDoes, moved_volume, number_of as number_of_plan}
use Rattle.treefs.specs.Linking.{LinkDoes, linked_volume}
use Rattle.treefs.specs.Unlinking.{as_plan}
use Rattle.treefs.specs.declared.attributes.Attributes.{Attributes}
use Rattle.treefs.specs.declared.volume.Volume.{Volume}
use Rattle.treefs_values.proofs.ForCallers.{numbers_named}
use Rattle.treefs_laws.specs.Kept.{files_in}
use Rattle.treefs_laws.specs.Refusals.{IsNoNumber, IsNoPlace, IsOfStore, IsRefused}
use Rattle.treefs_laws.proofs.Answering.{directory_so, linkable_so, names_so, new_so, no_file_ended, taken_so}
use Rattle.treefs_laws.proofs.NewPlanned.{free_so}
use Rattle.treefs_laws.proofs.Planned.{same_fault, then_fails, then_ok, then_twice}
use Rattle.treefs_laws.proofs.Refused.{full_or}

-- What was carried out

start_refused : (reason : Refusal) → IsOfStore (start_fault reason)
start_refused refusal.NoSpace = inl refl
start_refused reason = inr (reason, refl)

begins_refused : (T : Types) (fs : ℕ) (starts : List Start) (begun : List ℕ) (old new : StoreState) (fault : Fault) → Begins T fs starts begun old new (Err fault) → IsOfStore fault
begins_refused T fs [] begun old new fault begins = absurd (cc begins.0)
begins_refused T fs (start ∷ starts) begun old new fault begins = elim begins [
  | inl none ↦ subst IsOfStore (sym none.2) (start_refused none.0)
  | inr r ↦ begins_refused T fs starts (begun ++ r.0.0 ∷ []) r.1 new fault r.3
]

pub does_refused : (T : Types) (fs : ℕ) (plan : Plan) (old new : StoreState) (fault : Fault) → Does T fs plan old new (Err fault) → IsOfStore fault
does_refused T fs plan old new fault does = elim does [
  | inl none ↦ elim none [
    | inl lacks ↦ inr (refusal.NoMemory, lacks.0)
    | inr begins ↦ begins_refused T fs plan.starts [] old new fault begins
  ]
  | inr r ↦ inr (r.3.1, r.3.2)
]

-- what was planned is answered, or the store refuses
pub planned_refused : {A : Type 0} (T : Types) (fs : ℕ) (plan : A → Plan) (planned : Result A Fault) (old new : StoreState) (fault : Fault) →
    DoesPlanned T fs (as_plan plan planned) old new (Err fault) → ((new ≡ old) × (planned ≡ Err fault)) ⊎ IsOfStore fault
planned_refused T fs plan (Ok made) old new fault does = inr (does_refused T fs (plan made) old new fault does)
planned_refused T fs plan (Err other) old new fault does = elim does [
  | inl lacks ↦ inr (inr (refusal.NoMemory, lacks.0))
  | inr none ↦ inl (none.1, ap Err (sym none.0))
]

-- A place for a name

module _ (state : StoreState) (fs : ℕ) (name : List ℕ) where
  none_free : (hash inode : ℕ) (g : Fault) → free_place state fs hash inode name ≡ Err g → IsNoPlace g
  unfolding free_place
  none_free hash inode g e =
      by (first_some (room_at state fs inode name) (candidates hash)) (list_any (λ bucket. fits_without (bucket_of (readable state fs) inode bucket) name) (candidates hash)) e
    where
      by : (o : Option NamePlace) (t : Bool) → ok_or o (if t then Full else TooLarge) ≡ Err g → IsNoPlace g
      by (Some place) t e = absurd (cc e)
      by None true e = inl (sym (same_fault Full g e))
      by None false e = inr (sym (same_fault TooLarge g e))

  no_place : (hash inode : ℕ) (o : Option NamePlace) (g : Fault) → place_or o (free_place state fs hash inode name) ≡ Err g → IsNoPlace g
  no_place hash inode (Some place) g e = absurd (cc e)
  no_place hash inode None g e = none_free hash inode g e

module _ (state : StoreState) (tree : Tree) (d : ℕ) (name : List ℕ) (x : Found) (there : directory_found (readable state tree.fs.number) tree.top d ≡ Ok x) where
  pub no_addition : (directory : ℕ) (g : Fault) → addition_in state tree d directory name ≡ Err g → IsNoPlace g
  no_addition directory g e = by (place_in state tree.fs.number tree.top d name) placed e
    where
      key : List ℕ
      key = key_in (readable state tree.fs.number) tree.top

      dead : Option NamePlace
      dead = dead_place (readable state tree.fs.number) (name_hash key name) x.block name

      placed : place_in state tree.fs.number tree.top d name ≡ place_or dead (free_place state tree.fs.number (name_hash key name) x.block name)
      placed = ap (λ r. and_then r (λ (directory : Found). place_or (dead_place (readable state tree.fs.number) (name_hash key name) directory.block name)
          (free_place state tree.fs.number (name_hash key name) directory.block name))) there

      by : (r : Result NamePlace Fault) → r ≡ place_or dead (free_place state tree.fs.number (name_hash key name) x.block name) →
          and_then r (λ place. Ok (addition_at (readable state tree.fs.number) tree.node_type directory place)) ≡ Err g → IsNoPlace g
      by (Ok place) is e = absurd (cc e)
      by (Err fault) is e = no_place state tree.fs.number name (name_hash key name) x.block dead g (sym is ∙ ap Err (same_fault fault g e))

-- A link more

pub no_more_links : (memory : Memory) (n : ℕ) (x : Found) (g : Fault) → more_links memory n x ≡ Err g → g ≡ TooLarge
no_more_links memory n x g e = by (x.fields.links == 2 ^ 32 - 1) e
  where
    by : (t : Bool) → ◌≡◌ {A = Result LinkChange Fault} (if t then Err TooLarge else Ok (one_more memory n x)) (Err g) → g ≡ TooLarge
    by true e = sym (same_fault TooLarge g e)
    by false e = absurd (cc e)

-- A number

none_given : (state : StoreState) (tree : Tree) (memory : Memory) (g : Fault) → IsNumberFound state tree memory (Err g) → IsNoNumber g
none_given state tree memory g none = elim none.why [
  | inl full ↦ inl (inl full.0)
  | inr gone ↦ inr gone.0
]

-- What planners answer

module _ (state : StoreState) (volume : Volume) (d : ℕ) (name : List ℕ) (g : Fault) where
  abbrev fs : ℕ
  fs = volume.tree.fs.number

  abbrev tree : Tree
  tree = volume.tree

  abbrev top : ℕ
  top = volume.tree.top

  abbrev memory : Memory
  memory = volume.memory

  abbrev content : ℕ → List ℕ
  content = readable state fs

  abbrev seen : Files
  seen = files_in state volume

  abbrev clock : ℤ
  clock = volume.memory.clock

  not_free : free_name content top d name ≡ Err g → new_name seen d name ≡ Err g
  not_free is = new_so state volume d name ∙ ap (λ r. and_then r (λ b. Ok (tt {0}))) is

  commit_full : (edits n directory : ℕ) (naming : Naming) → commit_in_room state tree memory edits n directory naming ≡ Err g → g ≡ Full
  commit_full edits n directory naming e = full_or _ _ g e

  -- a new inode with its first name

  new_fault : IsNewPlanned state tree memory d name (Err g) → (new_name seen d name ≡ Err g) ⊎ IsNoNumber g
  new_fault planned = by (free_in_room state tree memory d name) refl planned
    where
      named_by : ℕ → ℕ → Addition → Result CommitPlan Fault
      named_by n directory a = commit_in_room state tree memory 31 n directory (Added a)

      if_roomy : ℕ → Result ℕ Fault
      if_roomy directory = if has_room state fs (length memory.touched) 2 [] then Ok directory else Err Full

      by_name : (r : Result ℕ Fault) → free_name content top d name ≡ r → and_then r if_roomy ≡ Err g → (new_name seen d name ≡ Err g) ⊎ IsNoNumber g
      by_name (Ok b) is e = inr (inl (inl (full_or (has_room state fs (length memory.touched) 2 []) b g e)))
      by_name (Err fault) is e = inl (not_free (is ∙ ap Err (same_fault fault g e)))

      by : (r : Result ℕ Fault) → free_in_room state tree memory d name ≡ r →
          MatchResult r (λ directory. (number : Result ℕ Fault) × IsNumberFound state tree memory number
          × (◌≡◌ {A = Result CommitPlan Fault} (Err g) (and_then number (λ n. and_then (addition_in state tree d directory name) (named_by n directory)))))
          (λ fault. ◌≡◌ {A = Result CommitPlan Fault} (Err g) (Err fault)) → (new_name seen d name ≡ Err g) ⊎ IsNoNumber g
      by (Err fault) is e = by_name (free_name content top d name) refl (is ∙ ap Err (sym (same_fault g fault e)))
      by (Ok directory) is (Err fault, number, e) = inr (subst IsNoNumber (sym (same_fault g fault e)) (none_given state tree memory fault number))
      by (Ok directory) is (Ok n, number, e) =
          let b = then_ok (free_name content top d name) if_roomy directory is in
          let free = free_so content top d name b.0 b.1 in
          inr (elim (then_fails (addition_in state tree d directory name) (named_by n directory) g (sym e)) [
            | inl none ↦ inl (no_addition state tree d name free.found free.found_is directory g none)
            | inr a ↦ inl (inl (commit_full 31 n directory (Added a.0) a.2))
          ])

  -- an inode gets one more name

  link_fault : (n : ℕ) → link_planned state tree memory n d name ≡ Err g → (linked seen clock n d name ≡ Err g) ⊎ IsNoPlace g
  link_fault n is = elim (then_fails (directory_found content top d) (λ (x : Found). and_then (plan_linkable content top n) rest2) g is) [
    | inl none ↦ inl (by_directory none)
    | inr one ↦ elim (then_fails (plan_linkable content top n) rest2 g one.2) [
      | inl none ↦ inl (by_inode one.0 one.1 ∙ ap (λ r. and_then (and_then r (λ (y : Found). Ok (tt {0}))) if_new) none)
      | inr two ↦ elim (then_fails (free_name content top d name) (rest3 two.0) g two.2) [
        | inl none ↦ inl (by_inode one.0 one.1 ∙ (ap (λ r. and_then (and_then r (λ (y : Found). Ok (tt {0}))) if_new) two.1
            ∙ ap (λ r. and_then r (λ (new : Unit {0}). Ok after)) (not_free none)))
        | inr three ↦ inr (elim (then_fails (addition_in state tree d three.0 name) (rest4 two.0 three.0) g three.2) [
          | inl none ↦ no_addition state tree d name one.0 one.1 three.0 g none
          | inr four ↦ elim (then_fails (more_links memory n two.0) (link_in_room state tree memory n three.0 four.0) g four.2) [
            | inl none ↦ inr (no_more_links memory n two.0 g none)
            | inr five ↦ inl (full_or _ _ g five.2)
          ]
        ])
      ]
    ]
  ]
    where
      rest4 : Found → ℕ → Addition → Result LinkPlan Fault
      rest4 inode directory addition = and_then (more_links memory n inode) (link_in_room state tree memory n directory addition)

      rest3 : Found → ℕ → Result LinkPlan Fault
      rest3 inode directory = and_then (addition_in state tree d directory name) (rest4 inode directory)

      rest2 : Found → Result LinkPlan Fault
      rest2 inode = and_then (free_name content top d name) (rest3 inode)

      after : Files
      after = changed_at (with_name (changed_at seen n (add_link clock)) d name (Some n)) d (touched_inode clock)

      if_new : Unit {0} → Result Files Fault
      if_new fine = and_then (new_name seen d name) (λ (new : Unit {0}). Ok after)

      if_found : Names → Result Files Fault
      if_found names = and_then (found seen n) (λ inode. and_then (linkable inode) if_new)

      by_directory : directory_found content top d ≡ Err g → linked seen clock n d name ≡ Err g
      by_directory none =
          ap (λ r. and_then r if_found) (directory_so state volume d ∙ ap (λ r. and_then r (λ (x : Found). Ok (number_of content (key_in content top) x.block))) none)

      by_inode : (x : Found) → directory_found content top d ≡ Ok x → linked seen clock n d name ≡ and_then (and_then (plan_linkable content top n) (λ (y : Found). Ok (tt {0}))) if_new
      by_inode x there =
          ap (λ r. and_then r if_found) (directory_so state volume d ∙ ap (λ r. and_then r (λ (x : Found). Ok (number_of content (key_in content top) x.block))) there)
          ∙ (sym (then_twice (found seen n) linkable if_new) ∙ ap (λ r. and_then r if_new) (linkable_so state volume n))

  -- an inode that was begun gets a name

  pub no_naming : (x : Found) → directory_found content top d ≡ Ok x → (directory : ℕ) (end : Option NameEnd) → naming_in state tree d directory name end ≡ Err g → IsNoPlace g
  no_naming x there directory None e = elim (then_fails (addition_in state tree d directory name) (λ addition. Ok (Added addition)) g e) [
    | inl none ↦ no_addition state tree d name x there directory g none
    | inr a ↦ absurd (cc a.2)
  ]
  no_naming x there directory (Some end) e = absurd (cc e)

  number_fault : (x : Found) → directory_found content top d ≡ Ok x → (directory : ℕ) (end : Option NameEnd) → IsNumbered state tree memory d directory name (Err g) end → IsNoNumber g
  number_fault x there directory end (Err fault, number, e) = subst IsNoNumber (sym (same_fault g fault e)) (none_given state tree memory fault number)
  number_fault x there directory end (Ok n, number, e) =
      inl (elim (then_fails (naming_in state tree d directory name end) (commit_in_room state tree memory 30 n directory) g (sym e)) [
        | inl none ↦ no_naming x there directory end none
        | inr a ↦ inl (commit_full 30 n directory a.0 a.2)
      ])

  -- of a directory that is there for the name
  found_for : (x : Found) → directory_for content top d name ≡ Ok x → (y : Found) × (directory_found content top d ≡ Ok y)
  found_for x is = let y = then_ok (directory_found content top d) (λ (y : Found). if is_name name then Ok y else Err BadName) x is in (y.0, y.1)

  not_for : (fault : Fault) → directory_for content top d name ≡ Err fault → ◌≡◌ {A = Result CommitPlan Fault} (Err g) (Err fault) → directory_for content top d name ≡ Err g
  not_for fault is e = is ∙ ap Err (sym (same_fault g fault e))

  abbrev Targets : Bool → Result Found Fault → Type 0
  Targets replace r = MatchResult r (λ x. (target : Result (Option NameEnd) Fault) × IsTarget state tree memory d name replace target
      × MatchResult target (IsNumbered state tree memory d x.block name (Err g)) (λ fault. ◌≡◌ {A = Result CommitPlan Fault} (Err g) (Err fault)))
      (λ fault. ◌≡◌ {A = Result CommitPlan Fault} (Err g) (Err fault))

  target_of : (replace : Bool) (x : Found) → directory_for content top d name ≡ Ok x → (target : Result (Option NameEnd) Fault) → IsTarget state tree memory d name replace target →
      IsTargetOf state tree memory d name replace target (slot_named content (key_in content top) x.block name)
  target_of replace x is target told = subst (λ r. MatchResult r (IsTargetOf state tree memory d name replace target) (λ fault. target ≡ Err fault)) (taken_so state volume d name x is) told

  commit_fault : IsCommitPlanned state tree memory d name false (Err g) → (new_name seen d name ≡ Err g) ⊎ IsNoNumber g
  commit_fault planned = by (directory_for content top d name) refl planned
    where
      by_slot : (x : Found) → directory_for content top d name ≡ Ok x → (o : Option Slot) → taken_in content top d name ≡ Ok o → (target : Result (Option NameEnd) Fault) →
          IsTargetOf state tree memory d name false target o →
          MatchResult target (IsNumbered state tree memory d x.block name (Err g)) (λ fault. ◌≡◌ {A = Result CommitPlan Fault} (Err g) (Err fault)) →
          (new_name seen d name ≡ Err g) ⊎ IsNoNumber g
      by_slot x is None taken (Err fault) e rest = absurd (cc e)
      by_slot x is None taken (Ok (Some end)) e rest = absurd (cc e)
      by_slot x is None taken (Ok None) e rest = let y = found_for x is in inr (number_fault y.0 y.1 x.block None rest)
      by_slot x is (Some slot) taken (Ok target) e rest = absurd (cc e)
      by_slot x is (Some slot) taken (Err fault) e rest =
          inl (not_free (ap (λ r. and_then r (λ (x : Found). and_then (taken_in content top d name) (if_free x.block))) is
          ∙ (ap (λ r. and_then r (if_free x.block)) taken ∙ ap Err (sym (same_fault g fault rest ∙ same_fault fault Exists e)))))

      by : (r : Result Found Fault) → directory_for content top d name ≡ r → Targets false r → (new_name seen d name ≡ Err g) ⊎ IsNoNumber g
      by (Err fault) is e = inl (not_free (ap (λ r. and_then r (λ (x : Found). and_then (taken_in content top d name) (if_free x.block))) (not_for fault is e)))
      by (Ok x) is (target, told, rest) =
          by_slot x is (slot_named content (key_in content top) x.block name) (taken_so state volume d name x is) target (target_of false x is target told) rest

  -- or the place of another one

  other_fault : (ended : Ended) (b : Bool) (other : Fault) →
      MatchBool b (◌≡◌ {A = Result (Option ℕ) Fault} (Err other) (Ok None)) (IsOtherBucket state fs ended (Err other)) → other ≡ Full
  other_fault ended true other e = absurd (cc e)
  other_fault ended false other e = elim e [
    | inl none ↦ same_fault other Full none.1
    | inr some ↦ absurd (cc some.2)
  ]

  unwritten : (end : NameEnd) (other : Option ℕ) (h : Fault) → if_written state end other ≡ Err h → h ≡ Full
  unwritten end None h e = absurd (cc e)
  unwritten end (Some block) h e = by (is_some (newest_entry_of state block)) e
    where
      by : (t : Bool) → ◌≡◌ {A = Result NameEnd Fault} (if t then Err Full else Ok end) (Err h) → h ≡ Full
      by true e = sym (same_fault Full h e)
      by false e = absurd (cc e)

  pub replaceable_fault : (ended : Ended) (h : Fault) → IsReplaceable state fs memory ended (Err h) → h ≡ Full
  replaceable_fault ended h (Err other, is, e) = same_fault h other e ∙ other_fault ended (ends_alone state fs memory ended) other is
  replaceable_fault ended h (Ok other, is, e) = unwritten (name_end memory ended) other h (sym e)

  replace_fault : IsCommitPlanned state tree memory d name true (Err g) → ((n : ℕ) (inode : Inode) → replaced seen clock d name n inode ≡ Err g) ⊎ IsNoNumber g
  replace_fault planned = by (directory_for content top d name) refl planned
    where
      done : ℕ → Inode → Option ℕ → Result Files Fault
      done n inode m = Ok (lost (made seen clock d name n inode) clock m)

      if_names : ℕ → Inode → Names → Result Files Fault
      if_names n inode names = and_then (replaceable seen (names name)) (done n inode)

      names_are : (r : Result Found Fault) → directory_for content top d name ≡ r →
          names_for seen d name ≡ and_then r (λ (x : Found). Ok (number_of content (key_in content top) x.block))
      names_are r is = names_so state volume d name ∙ ap (λ r. and_then r (λ (x : Found). Ok (number_of content (key_in content top) x.block))) is

      no_file : (x : Found) → directory_for content top d name ≡ Ok x → (slot : Slot) → slot_named content (key_in content top) x.block name ≡ Some slot →
          file_ended content top d name ≡ Err g → (n : ℕ) (inode : Inode) → replaced seen clock d name n inode ≡ Err g
      no_file x is slot slot_is none n inode =
          let leads : number_of content (key_in content top) x.block name ≡ Some slot.number =
          sym (numbers_named content x.block name (key_in content top)) ∙ ap (option_map (λ (s : Slot). s.number)) slot_is in
          let named : names_for seen d name ≡ Ok (number_of content (key_in content top) x.block) = names_are (Ok x) is in
          let refused = no_file_ended state volume d name (λ m. Ok (Some m)) g none in
          ap (λ r. and_then r (if_names n inode)) named
          ∙ (ap (λ o. and_then (replaceable seen o) (done n inode)) leads
          ∙ ap (λ r. and_then r (done n inode))
          (sym (ap (λ r. and_then (and_then r (λ names. ok_or (names name) NoEntry)) (λ m. replaceable seen (Some m))) named
          ∙ ap (λ o. and_then (ok_or o NoEntry) (λ m. replaceable seen (Some m))) leads) ∙ refused))

      by_ended : (x : Found) → directory_for content top d name ≡ Ok x → (slot : Slot) → slot_named content (key_in content top) x.block name ≡ Some slot → (r : Result Ended Fault) →
          file_ended content top d name ≡ r → MatchResult r (λ ended. IsReplaceable state fs memory ended (Err g)) (λ fault. ◌≡◌ {A = Result NameEnd Fault} (Err g) (Err fault)) →
          ((n : ℕ) (inode : Inode) → replaced seen clock d name n inode ≡ Err g) ⊎ IsNoNumber g
      by_ended x is slot slot_is (Err fault) none e = inl (no_file x is slot slot_is (none ∙ ap Err (sym (same_fault g fault e))))
      by_ended x is slot slot_is (Ok ended) some e = inr (inl (inl (replaceable_fault ended g e)))

      by_slot : (x : Found) → directory_for content top d name ≡ Ok x → (o : Option Slot) → slot_named content (key_in content top) x.block name ≡ o →
          (target : Result (Option NameEnd) Fault) → IsTargetOf state tree memory d name true target o →
          MatchResult target (IsNumbered state tree memory d x.block name (Err g)) (λ fault. ◌≡◌ {A = Result CommitPlan Fault} (Err g) (Err fault)) →
          ((n : ℕ) (inode : Inode) → replaced seen clock d name n inode ≡ Err g) ⊎ IsNoNumber g
      by_slot x is None slot_is (Err fault) e rest = absurd (cc e)
      by_slot x is None slot_is (Ok (Some end)) e rest = absurd (cc e)
      by_slot x is None slot_is (Ok None) e rest = let y = found_for x is in inr (number_fault y.0 y.1 x.block None rest)
      by_slot x is (Some slot) slot_is (Ok end) e rest = let y = found_for x is in inr (number_fault y.0 y.1 x.block end rest)
      by_slot x is (Some slot) slot_is (Err fault) (Ok end, ended, e) rest = absurd (cc e)
      by_slot x is (Some slot) slot_is (Err fault) (Err other, ended, e) rest =
          let same : other ≡ g = sym (same_fault g fault rest ∙ same_fault fault other e) in
          by_ended x is slot slot_is (file_ended content top d name) refl
          (subst (λ h. MatchResult (file_ended content top d name) (λ ended. IsReplaceable state fs memory ended (Err h)) (λ fault. ◌≡◌ {A = Result NameEnd Fault} (Err h) (Err fault))) same ended)

      by : (r : Result Found Fault) → directory_for content top d name ≡ r → Targets true r → ((n : ℕ) (inode : Inode) → replaced seen clock d name n inode ≡ Err g) ⊎ IsNoNumber g
      by (Err fault) is e = inl (λ n inode. ap (λ r. and_then r (if_names n inode)) (names_are (Err g) (not_for fault is e)))
      by (Ok x) is (target, told, rest) = by_slot x is (slot_named content (key_in content top) x.block name) refl target (target_of true x is target told) rest

-- The calls

module _ (T : Types) (state state' : StoreState) (volume volume' : Volume) (d : ℕ) (name : List ℕ) (fault : Fault) where
  abbrev files : Files
  files = files_in state volume

  abbrev Said : Volume → Fault → Type 0
  Said v g = IsRefused state state' volume v g ((new_name files d name ≡ Err g) ⊎ IsNoNumber g)

  new_refused : (middle : Volume) (inode : List ℕ) → NewDoes T state state' volume middle d name inode (Err fault) → Said middle fault
  new_refused middle inode (planned, is_planned, does, none, same) = (
    same,
    elim (planned_refused T volume.tree.fs.number (new_plan name inode) planned state state' fault does) [
      | inl none ↦ inl (none.0, new_fault state volume d name fault (subst (IsNewPlanned state volume.tree volume.memory d name) none.1 is_planned))
      | inr store ↦ inr store
    ],
  )

  -- of what was planned for a new inode
  abbrev DoesNew : List ℕ → Volume → Result CommitPlan Fault → Type 0
  DoesNew inode middle made = NewDoes T state state' volume middle d name inode made

  of_made : (inode : List ℕ) (middle : Volume) (made : Result CommitPlan Fault) → DoesNew inode middle made → ◌≡◌ {A = Result ℕ Fault} (Err fault) (number_of_plan made) →
      Said middle fault × (made ≡ Err fault)
  of_made inode middle (Ok plan) does e = absurd (cc e)
  of_made inode middle (Err other) does e =
      let same : other ≡ fault = sym (same_fault fault other e) in
      (new_refused middle inode (subst (λ g. DoesNew inode middle (Err g)) same does), ap Err same)

  pub create_refused : (attributes : Attributes) → CreateDoes T state state' volume volume' d name attributes (Err fault) → Said volume' fault
  create_refused attributes (made, does, e) = (of_made _ volume' made does e).0

  pub symlink_refused : (attributes : Attributes) (target : List ℕ) → SymlinkDoes T state state' volume volume' d name attributes target (Err fault) → Said volume' fault
  symlink_refused attributes target (made, does, e) = (of_made _ volume' made does e).0

  pub mkdir_refused : (attributes : Attributes) → MkdirDoes T state state' volume volume' d name attributes (Err fault) → Said volume' fault
  mkdir_refused attributes (made, middle, does, is, e) =
      let whole = of_made _ middle made does e in
      subst (λ v. Said v fault) (sym (is ∙ ap (moved_volume state' middle) whole.1)) whole.0

  pub link_refused : (n : ℕ) → LinkDoes T state state' volume volume' n d name (Err fault) →
      IsRefused state state' volume volume' fault ((linked files volume.memory.clock n d name ≡ Err fault) ⊎ IsNoPlace fault)
  link_refused n (does, is) = (
    is ∙ same (link_planned state volume.tree volume.memory n d name),
    elim (planned_refused T volume.tree.fs.number (link_plan name) (link_planned state volume.tree volume.memory n d name) state state' fault does) [
      | inl none ↦ inl (none.0, link_fault state volume d name fault n none.1)
      | inr store ↦ inr store
    ],
  )
    where
      same : (r : Result LinkPlan Fault) → linked_volume state' volume d r (Err fault) ≡ volume
      same (Ok plan) = refl
      same (Err other) = refl

  -- of a plan to give a name to an inode that was begun, where its block may be read
  commit_refused : (block : ℕ) (replace : Bool) (Answered : Type 0) → (IsCommitPlanned state volume.tree volume.memory d name replace (Err fault) → Answered) →
      CommitDoes T state state' volume volume' block d name replace (Err fault) → IsRefused state state' volume volume' fault Answered
  commit_refused block replace Answered so (planned, (first, is_planned, is), does, none, same) = (
    same ∙ left planned,
    elim (planned_refused T volume.tree.fs.number (commit_plan name block) planned state state' fault does) [
      | inl refused ↦ by first is_planned refused.0 (sym is ∙ refused.1)
      | inr store ↦ inr store
    ],
  )
    where
      left : (r : Result CommitPlan Fault) → committed_volume volume d r (Err fault) ≡ volume
      left (Ok plan) = refl
      left (Err other) = refl

      by_read : (plan : CommitPlan) (r : Result (List ℕ) Refusal) → if_readable r plan ≡ Err fault → IsOfStore fault
      by_read plan (Ok bytes) e = absurd (cc e)
      by_read plan (Err reason) e = inr (reason, sym (same_fault (Kernel reason) fault e))

      by : (r : Result CommitPlan Fault) → IsCommitPlanned state volume.tree volume.memory d name replace r → state' ≡ state →
          and_then r (if_readable (read_of state volume.tree.fs.number block)) ≡ Err fault → ((state' ≡ state) × Answered) ⊎ IsOfStore fault
      by (Ok plan) is_planned kept e = inr (by_read plan (read_of state volume.tree.fs.number block) e)
      by (Err other) is_planned kept e =
          inl (kept, so (subst (λ g. IsCommitPlanned state volume.tree volume.memory d name replace (Err g)) (same_fault other fault e) is_planned))

  pub first_refused : (block : ℕ) → CommitDoes T state state' volume volume' block d name false (Err fault) → Said volume' fault
  first_refused block does = commit_refused block false ((new_name files d name ≡ Err fault) ⊎ IsNoNumber fault) (commit_fault state volume d name fault) does

  pub second_refused : (block : ℕ) → CommitDoes T state state' volume volume' block d name true (Err fault) →
      IsRefused state state' volume volume' fault (((n : ℕ) (inode : Inode) → replaced files volume.memory.clock d name n inode ≡ Err fault) ⊎ IsNoNumber fault)
  second_refused block does =
      commit_refused block true (((n : ℕ) (inode : Inode) → replaced files volume.memory.clock d name n inode ≡ Err fault) ⊎ IsNoNumber fault)
      (replace_fault state volume d name fault) does
