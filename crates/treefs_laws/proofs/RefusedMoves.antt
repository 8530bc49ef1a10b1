-- `rename` that is refused.
use Rattle.std.proofs.Common.{◌≡◌, ◌⊎◌, ℕ, Bool, true, false, not, ◌&&◌, List, Option, None, Some, Result, Ok, Err, refl, sym, ◌∙◌, ap, inl, inr, subst, if◌then◌else◌}
use Rattle.std.specs.Prelude.{MatchBool, MatchResult, option_map, ◌==◌}
use Rattle.xn_model.specs.Types.{Types}
use Rattle.xn_model.specs.Lives.{StoreState}
use Rattle.treefs_format.specs.declared.kind.Kind.{Kind}
use Rattle.treefs_format.specs.declared.kind.Kind.TheVariants as kind
use Rattle.treefs_model.specs.Changes.{may_go, renamed}
use Rattle.treefs_model.specs.Files.{Files, Inode, Names, and_then, found, is_directory, number_in}
use Rattle.treefs_model.specs.Reading.{key_in, number_of}
use Rattle.treefs_model.specs.declared.fault.Fault.{Fault}
use Rattle.treefs_model.specs.declared.fault.Fault.TheVariants.{Full, IsDir, NotDir, NotEmpty}
use Rattle.treefs_lookup.specs.Names.{slot_named}
use Rattle.treefs_lookup.specs.Readable.{readable}
use Rattle.treefs_lookup.specs.declared.names.Slot.{Slot}
use Rattle.treefs_lookup.specs.declared.sought.Sought.TheVariants.{Live}
use Rattle.treefs_edits.specs.Memories.{Memory, is_past}
use Rattle.treefs_edits.specs.declared.tree.Tree.{Tree}
use Rattle.treefs_name_plans.specs.CommitPlans.{some_of}
use Rattle.treefs_name_plans.specs.Ends.{ended_in}
use Rattle.treefs_name_plans.specs.LinkPlans.{more_links}
use Rattle.treefs_name_plans.specs.Moves.{IsAnyReplaceable, IsEmptyReplaceable, IsTakenReplaced, is_kind_directory, kinds_agree, moved_in}
use Rattle.treefs_name_plans.specs.Namings.{IsReplaceable, naming_in}
use Rattle.treefs_name_plans.specs.NewNames.{place_in, taken_in}
use Rattle.treefs_name_plans.specs.Removals.{HasBucket}
use Rattle.treefs_name_plans.specs.RenamePlans.{IsMovePlanned, IsRenamePlanned, apart_in_room, leads_to, linked_in_room, move_of, rename_in, rename_plan, stands_in, together_in_room}
use Rattle.treefs_name_plans.specs.declared.ended.Ended.{Ended}
use Rattle.treefs_name_plans.specs.declared.moved.Moved.{Moved}
use Rattle.treefs_name_plans.specs.declared.name_end.NameEnd.{NameEnd}
use Rattle.treefs_name_plans.specs.declared.naming.Naming.{Naming}
use Rattle.treefs_name_plans.specs.declared.rename_plan.RenamePlan.{RenamePlan}
use Rattle.treefs.specs.Renaming.{DoesRename, RenameDoes, renamed_volume}
use Rattle.treefs.specs.declared.volume.Volume.{Volume}
use Rattle.treefs_laws.specs.Kept.{IsKept, files_in}
use Rattle.treefs_laws.specs.Refusals.{IsNoPlace, IsNotMoved, IsOfStore, IsRefused}
use Rattle.treefs_laws.proofs.Answering.{ended_so, none_ended, number_so, taken_so, value_at}
use Rattle.treefs_laws.proofs.Filled.{filled}
use Rattle.treefs_laws.proofs.MovesPlanned.{IsMoved, for_new, if_inode, kind_is, leads, looked, moved_done, moved_so, new_leads, new_number, not_moved}
use Rattle.treefs_laws.proofs.Planned.{ended_is, same_done, same_fault, then_fails, then_ok}
use Rattle.treefs_laws.proofs.Refused.{full_or}
use Rattle.treefs_laws.proofs.RefusedNames.{does_refused, no_more_links, no_naming, planned_refused, replaceable_fault}

-- Kinds that don't agree, and a directory that is not empty

module _ {A : Type 0} (x : A) (m : Option ℕ) (g : Fault) where
  abbrev agreed : Bool → Bool → Result A Fault
  agreed other own = if other && not own then Err IsDir else if own && not other then Err NotDir else Ok x

  abbrev going : Bool → Bool → Bool → Result (Option ℕ) Fault
  going other own empty = if other && not own then Err IsDir else if own && not other then Err NotDir else if other && not empty then Err NotEmpty else Ok m

  unlike : (other own : Bool) → agreed other own ≡ Err g → going other own true ≡ Err g
  unlike true true e = absurd (cc e)
  unlike true false e = ap Err (same_fault IsDir g e)
  unlike false true e = ap Err (same_fault NotDir g e)
  unlike false false e = absurd (cc e)

  full_one : (other own : Bool) (y : A) → other ≡ true → agreed other own ≡ Ok y → going other own false ≡ Err NotEmpty
  full_one true true y one e = refl
  full_one true false y one e = absurd (cc e)
  full_one false own y one e = absurd (cc one)

  same_agreed : (other own : Bool) (y : A) → agreed other own ≡ Ok y → x ≡ y
  same_agreed true true y e = same_done x y e
  same_agreed true false y e = absurd (cc e)
  same_agreed false true y e = absurd (cc e)
  same_agreed false false y e = same_done x y e

one_kind : (k : Kind) → is_kind_directory k ≡ true → k ≡ kind.Directory
one_kind kind.Directory is = refl
one_kind kind.File is = absurd (cc is)
one_kind kind.SymbolicLink is = absurd (cc is)

module _ (T : Types) (state : StoreState) (volume : Volume) (kept : IsKept T state volume) (d : ℕ) (name : List ℕ) (to : ℕ) (new : List ℕ) (g : Fault) where
  abbrev fs : ℕ
  fs = volume.tree.fs.number

  abbrev tree : Tree
  tree = volume.tree

  abbrev memory : Memory
  memory = volume.memory

  abbrev content : ℕ → List ℕ
  content = readable state fs

  abbrev top : ℕ
  top = volume.tree.top

  abbrev key : List ℕ
  key = key_in content top

  abbrev seen : Files
  seen = files_in state volume

  abbrev NotMoved : Type 0
  NotMoved = IsNotMoved state volume d name to new g

  module _ (moved : Moved) (m : IsMoved state volume d name to new moved) where
    abbrev n : ℕ
    n = moved.old.slot.number

    abbrev value : Inode
    value = value_at state volume n moved.old.inode

    abbrev others : Names
    others = number_of content key m.into.block

    -- room, and a place

    no_links : (naming : Naming) → linked_in_room state tree memory moved to naming ≡ Err g → IsNoPlace g
    no_links naming e = by (stands_in naming moved.old.slot.block) e
      where
        by : (t : Bool) → (if t then together_in_room state tree memory moved naming
            else and_then (more_links memory n moved.old.inode) (apart_in_room state tree memory moved to naming)) ≡ Err g → IsNoPlace g
        by true e = inl (full_or _ _ g e)
        by false e = elim (then_fails (more_links memory n moved.old.inode) (apart_in_room state tree memory moved to naming) g e) [
          | inl none ↦ inr (no_more_links memory n moved.old.inode g none)
          | inr more ↦ inl (full_or _ _ g more.2)
        ]

    no_rename : (end : Option NameEnd) → rename_in state tree memory moved d to (place_in state tree.fs.number tree.top to new) end ≡ Err g → IsNoPlace g
    no_rename end e = by (not (d == to) && not (is_past state fs memory.last_dir)) e
      where
        by : (t : Bool) → (if t then Err Full else and_then (naming_in state tree to moved.directory new end) (linked_in_room state tree memory moved to)) ≡ Err g → IsNoPlace g
        by true e = inl (sym (same_fault Full g e))
        by false e = elim (then_fails (naming_in state tree to moved.directory new end) (linked_in_room state tree memory moved to) g e) [
          | inl none ↦ no_naming state volume to new g m.into m.there' moved.directory end none
          | inr naming ↦ no_links naming.0 naming.2
        ]

    no_move : (end : Option NameEnd) → move_of (rename_in state tree memory moved d to (place_in state tree.fs.number tree.top to new) end) ≡ Err g → IsNoPlace g
    no_move end e = by (rename_in state tree memory moved d to (place_in state tree.fs.number tree.top to new) end) refl e
      where
        by : (r : Result RenamePlan Fault) → rename_in state tree memory moved d to (place_in state tree.fs.number tree.top to new) end ≡ r → move_of r ≡ Err g → IsNoPlace g
        by (Ok plan) is e = absurd (cc e)
        by (Err fault) is e = no_rename end (is ∙ ap Err (same_fault fault g e))

    -- what has the new name may not go

    module _ (slot : Slot) (slot_is : slot_named content key m.into.block new ≡ Some slot) (unlike_n : (slot.number == n) ≡ false) where
      leads_there : others new ≡ Some slot.number
      leads_there = new_leads state volume d name to new m.from m.into m.there m.there' m.both ∙ ap (option_map (λ (s : Slot). s.number)) slot_is

      abbrev go : Bool → ℕ → Inode → Result (Option ℕ) Fault
      go empty k other =
          if is_directory other.content && not (is_directory value.content) then Err IsDir
          else if is_directory value.content && not (is_directory other.content) then Err NotDir
          else if is_directory other.content && not empty then Err NotEmpty
          else Ok (Some k)

      number_there : number_in seen to new ≡ Ok slot.number
      number_there = new_number state volume d name to new m.from m.into m.there m.there' m.both slot slot_is

      refused : (empty : Bool) (h : Fault) → may_go seen value (Some slot.number) empty ≡ Err h →
          if_inode state volume d name to new false empty others n value ≡ Err h
      refused empty h e =
          ap (λ o. if leads state volume d name to new o n then Ok seen else and_then (may_go seen value o empty) (moved_done state volume d name to new n)) leads_there
          ∙ (ap (λ t. if t then Ok seen else and_then (may_go seen value (Some slot.number) empty) (moved_done state volume d name to new n)) unlike_n
          ∙ ap (λ r. and_then r (moved_done state volume d name to new n)) e)

      answers : (empty : Bool) (h : Fault) → may_go seen value (Some slot.number) empty ≡ Err h → renamed seen volume.memory.clock d name to new false empty ≡ Err h
      answers empty h e =
          looked state volume d name to new m.from m.into m.there m.there' m.both false empty
          ∙ (ended_so state volume d name (if_inode state volume d name to new false empty others) moved.old m.old_is ∙ refused empty h e)

      plain : may_go seen value (Some slot.number) true ≡ Err g → NotMoved
      plain e = record { below = false; empty = true; answers = answers true g e; within = λ z. absurd (cc z); filled = λ z. absurd (cc z) }

      abbrev own : Bool
      own = is_kind_directory moved.old.inode.kind

      none_there : ended_in content top to new ≡ Err g → may_go seen value (Some slot.number) true ≡ Err g
      none_there none = sym (ap (λ r. and_then r (λ k. and_then (found seen k) (go true k))) number_there) ∙ none_ended state volume to new (go true) g none

      sees : (empty : Bool) (ended : Ended) → ended_in content top to new ≡ Ok ended →
          may_go seen value (Some slot.number) empty ≡ going ended (Some ended.slot.number) g (is_kind_directory ended.inode.kind) own empty
      sees empty ended is =
          sym (ap (λ r. and_then r (λ k. and_then (found seen k) (go empty k))) number_there)
          ∙ (ended_so state volume to new (go empty) ended is
          ∙ (λ j. going ended (Some ended.slot.number) g (kind_is content key ended.inode.block ended.inode.fields.parent ended.inode.kind j)
          (kind_is content key moved.old.inode.block moved.old.inode.fields.parent moved.old.inode.kind j) empty))

      not_empty : (ended : Ended) → ended_in content top to new ≡ Ok ended → is_kind_directory ended.inode.kind ≡ true → kinds_agree moved.old.inode.kind ended ≡ Ok ended →
          HasBucket state fs ended.inode.block Live true → g ≡ NotEmpty → NotMoved
      not_empty ended is one agree (bucket, next) g_is =
          let at = ended_is content top to new ended is in
          record {
            below = false;
            empty = false;
            answers = answers false g (sees false ended is ∙ (full_one ended (Some ended.slot.number) g (is_kind_directory ended.inode.kind) own ended one agree ∙ ap Err (sym g_is)));
            within = λ z. absurd (cc z);
            filled = λ z. (
              ended.slot.number,
              number_so state volume to new ∙ ap (λ r. and_then r (λ (s : Slot). Ok s.number)) at.0,
              filled T state volume kept ended.slot.number ended.inode at.1 (one_kind ended.inode.kind one) bucket next,
            );
          }

      not_replaced : (ended : Ended) → ended_in content top to new ≡ Ok ended → kinds_agree moved.old.inode.kind ended ≡ Ok ended →
          IsAnyReplaceable state fs memory ended (Err g) → NotMoved ⊎ IsNoPlace g
      not_replaced ended is agree any = by (is_kind_directory ended.inode.kind) refl any
        where
          by : (t : Bool) → is_kind_directory ended.inode.kind ≡ t → MatchBool t (IsEmptyReplaceable state fs memory ended (Err g)) (IsReplaceable state fs memory ended (Err g)) →
              NotMoved ⊎ IsNoPlace g
          by false one is_file = inr (inl (replaceable_fault state volume to new g ended g is_file))
          by true one (true, has, e) = inl (not_empty ended is one agree has (same_fault g NotEmpty e))
          by true one (false, none, (true, has, e)) = inr (inl (same_fault g Full e))
          by true one (false, none, (false, has, e)) = absurd (cc e)

      not_taken : (replaced : Result (Option NameEnd) Fault) → IsTakenReplaced state tree memory moved.old.inode.kind to new (Some slot) replaced → replaced ≡ Err g →
          NotMoved ⊎ IsNoPlace g
      not_taken replaced told failed = by (and_then (ended_in content top to new) (kinds_agree moved.old.inode.kind)) refl told
        where
          by_end : (ended : Ended) → and_then (ended_in content top to new) (kinds_agree moved.old.inode.kind) ≡ Ok ended → (end : Result NameEnd Fault) →
              IsAnyReplaceable state fs memory ended end → some_of end ≡ Err g → NotMoved ⊎ IsNoPlace g
          by_end ended is (Ok end) any e = absurd (cc e)
          by_end ended is (Err fault) any e =
              let x = then_ok (ended_in content top to new) (kinds_agree moved.old.inode.kind) ended is in
              let same : x.0 ≡ ended = same_agreed x.0 None g (is_kind_directory x.0.inode.kind) own ended x.2 in
              not_replaced ended (x.1 ∙ ap Ok same) (ap (kinds_agree moved.old.inode.kind) (sym same) ∙ x.2)
              (subst (λ h. IsAnyReplaceable state fs memory ended (Err h)) (same_fault fault g e) any)

          by : (r : Result Ended Fault) → and_then (ended_in content top to new) (kinds_agree moved.old.inode.kind) ≡ r →
              MatchResult r (λ ended. (end : Result NameEnd Fault) × IsAnyReplaceable state fs memory ended end × (replaced ≡ some_of end)) (λ fault. replaced ≡ Err fault) →
              NotMoved ⊎ IsNoPlace g
          by (Ok ended) is (end, any, e) = by_end ended is end any (sym e ∙ failed)
          by (Err fault) is e = elim (then_fails (ended_in content top to new) (kinds_agree moved.old.inode.kind) g (is ∙ ap Err (same_fault fault g (sym e ∙ failed)))) [
            | inl none ↦ inl (plain (none_there none))
            | inr x ↦ inl (plain (sees true x.0 x.1 ∙ unlike x.0 (Some x.0.slot.number) g (is_kind_directory x.0.inode.kind) own x.2))
          ]

    -- in their order

    abbrev Planned : Option Slot → Type 0
    Planned o = IsMovePlanned state tree memory moved d to new o (Err g)

    by_slot : (o : Option Slot) → slot_named content key m.into.block new ≡ o → MatchBool (leads_to o n) (◌≡◌ {A = Result (Option RenamePlan) Fault} (Err g) (Ok None)) (Planned o) →
        NotMoved ⊎ IsNoPlace g
    by_slot None is (replaced, told, e) =
        inr (no_move None (sym (ap (λ r. and_then r (λ end. move_of (rename_in state tree memory moved d to (place_in state tree.fs.number tree.top to new) end))) told) ∙ sym e))
    by_slot (Some slot) is p = by_number (slot.number == n) refl p
      where
        by_number : (t : Bool) → (slot.number == n) ≡ t → MatchBool t (◌≡◌ {A = Result (Option RenamePlan) Fault} (Err g) (Ok None)) (Planned (Some slot)) → NotMoved ⊎ IsNoPlace g
        by_number true h e = absurd (cc e)
        by_number false h (replaced, told, e) = elim (then_fails replaced (λ end. move_of (rename_in state tree memory moved d to (place_in state tree.fs.number tree.top to new) end)) g (sym e)) [
          | inl none ↦ not_taken slot is h replaced told none
          | inr some ↦ inr (no_move some.0 some.2)
        ]

  rename_fault : IsRenamePlanned state tree memory d name to new (Err g) → NotMoved ⊎ IsNoPlace g
  rename_fault planned = by (moved_in content top d name to new) refl planned
    where
      named_by : Moved → Option Slot → Type 0
      named_by moved taken = MatchBool (leads_to taken moved.old.slot.number) (◌≡◌ {A = Result (Option RenamePlan) Fault} (Err g) (Ok None))
          (IsMovePlanned state tree memory moved d to new taken (Err g))

      by : (r : Result Moved Fault) → moved_in content top d name to new ≡ r →
          MatchResult r (λ moved. MatchResult (taken_in content top to new) (named_by moved) (λ fault. ◌≡◌ {A = Result (Option RenamePlan) Fault} (Err g) (Err fault)))
          (λ fault. ◌≡◌ {A = Result (Option RenamePlan) Fault} (Err g) (Err fault)) → NotMoved ⊎ IsNoPlace g
      by (Err fault) is e = inl (not_moved state volume d name to new g (is ∙ ap Err (sym (same_fault g fault e))))
      by (Ok moved) is e =
          let m = moved_so state volume d name to new moved is in
          let taken = taken_so state volume to new m.into (for_new state volume d name to new m.from m.into m.there m.there' m.both) in
          by_slot moved m (slot_named content key m.into.block new) refl
          (subst (λ r. MatchResult r (named_by moved) (λ fault. ◌≡◌ {A = Result (Option RenamePlan) Fault} (Err g) (Err fault))) taken e)

  pub rename_refused : (state' : StoreState) (volume' : Volume) → RenameDoes T state state' volume volume' d name to new (Err g) →
      IsRefused state state' volume volume' g (NotMoved ⊎ IsNoPlace g)
  rename_refused state' volume' (planned, is_planned, does, same) = (same ∙ left planned, by planned is_planned does)
    where
      left : (r : Result (Option RenamePlan) Fault) → renamed_volume state' volume d to r (Err g) ≡ volume
      left (Ok None) = refl
      left (Ok (Some plan)) = refl
      left (Err fault) = refl

      by : (r : Result (Option RenamePlan) Fault) → IsRenamePlanned state tree memory d name to new r → DoesRename T fs new r state state' (Err g) →
          ((state' ≡ state) × (NotMoved ⊎ IsNoPlace g)) ⊎ IsOfStore g
      by (Ok None) is_planned does = absurd (cc does.0)
      by (Ok (Some plan)) is_planned does = inr (does_refused T fs (rename_plan new plan) state state' g does)
      by (Err fault) is_planned does = elim (planned_refused T fs (rename_plan new) (Err fault) state state' g does) [
        | inl none ↦ inl (none.0, rename_fault (subst (λ h. IsRenamePlanned state tree memory d name to new (Err h)) (same_fault fault g none.1) is_planned))
        | inr store ↦ inr store
      ]
