-- What planning the move of a name found.
--     IsMovePlan     the name that moves, the record of the new one, and the links
use Rattle.std.proofs.Common.{◌≡◌, ℕ, ◌+◌, ◌-◌, ◌^◌, Bool, true, false, not, ◌&&◌, List, [], Option, None, Some, Result, Ok, Err, refl, sym, ◌∙◌, ap, subst, if◌then◌else◌}
use Rattle.std.specs.Prelude.{MatchBool, MatchResult, ◌==◌}
use Rattle.std.proofs.lemmas.Option.{same_Some}
use Rattle.xn_model.specs.Lives.{StoreState}
use Rattle.treefs_format.specs.Paths.{leaf_count}
use Rattle.treefs_format.specs.declared.kind.Kind.TheVariants as kind
use Rattle.treefs_model.specs.Files.{and_then}
use Rattle.treefs_model.specs.Reading.{key_in}
use Rattle.treefs_model.specs.declared.fault.Fault.{Fault}
use Rattle.treefs_model.specs.declared.fault.Fault.TheVariants.{Full, IsDir, NotDir, TooLarge}
use Rattle.treefs_lookup.specs.Names.{slot_named}
use Rattle.treefs_lookup.specs.Readable.{readable}
use Rattle.treefs_lookup.specs.Sought.{AreWithout}
use Rattle.treefs_lookup.specs.declared.names.Slot.{Slot}
use Rattle.treefs_lookup.specs.declared.sought.Sought.TheVariants.{Live}
use Rattle.treefs_edits.specs.Memories.{Memory, is_past, newest_times}
use Rattle.treefs_edits.specs.declared.tree.Tree.{Tree}
use Rattle.treefs_name_plans.specs.CommitPlans.{some_of}
use Rattle.treefs_name_plans.specs.Ends.{ended_in, name_end, times_of}
use Rattle.treefs_name_plans.specs.LinkPlans.{more_links, one_more}
use Rattle.treefs_name_plans.specs.Moves.{IsAnyReplaceable, IsEmptyReplaceable, IsTakenReplaced, is_kind_directory, kinds_agree, moved_in}
use Rattle.treefs_name_plans.specs.Namings.{IsReplaceable, naming_in}
use Rattle.treefs_name_plans.specs.NewNames.{addition_in, place_in, taken_in}
use Rattle.treefs_name_plans.specs.RenamePlans.{IsMovePlanned, IsRenamePlanned, apart_in_room, leads_to, linked_in_room, links_between, move_of, planned_move, rename_in, stands_in, together_in_room}
use Rattle.treefs_name_plans.specs.declared.ended.Ended.{Ended}
use Rattle.treefs_name_plans.specs.declared.link_change.LinkChange.{LinkChange}
use Rattle.treefs_name_plans.specs.declared.moved.Moved.{Moved}
use Rattle.treefs_name_plans.specs.declared.name_end.NameEnd.{NameEnd}
use Rattle.treefs_name_plans.specs.declared.naming.Naming.{Naming}
use Rattle.treefs_name_plans.specs.declared.naming.Naming.TheVariants.{Added, Replaced}
use Rattle.treefs_name_plans.specs.declared.rename_plan.Moving.{Moving}
use Rattle.treefs_name_plans.specs.declared.rename_plan.Moving.TheVariants.{Apart, Together}
use Rattle.treefs_name_plans.specs.declared.rename_plan.RenamePlan.{RenamePlan}
use Rattle.treefs.specs.declared.volume.Volume.{Volume}
use Rattle.treefs_laws.proofs.Answering.{taken_so}
use Rattle.treefs_laws.proofs.MovesPlanned.{IsMoved, for_new, moved_so}
use Rattle.treefs_laws.proofs.NewPlanned.{written_end}
use Rattle.treefs_laws.proofs.Planned.{same_done, then_ok}

roomy : {A : Type 0} (t : Bool) (x y : A) → ◌≡◌ {A = Result A Fault} (if t then Ok x else Err Full) (Ok y) → x ≡ y
roomy true x y e = same_done x y e
roomy false x y e = absurd (cc e)

module _ (state : StoreState) (volume : Volume) (d : ℕ) (name : List ℕ) (to : ℕ) (new : List ℕ) where
  abbrev fs : ℕ
  fs = volume.tree.fs.number

  abbrev tree : Tree
  tree = volume.tree

  abbrev memory : Memory
  memory = volume.memory

  abbrev content : ℕ → List ℕ
  content = readable state fs

  abbrev top : ℕ
  top = volume.tree.top

  abbrev key : List ℕ
  key = key_in content top

  module _ (moved : Moved) (m : IsMoved state volume d name to new moved) where
    abbrev taken : Option Slot
    taken = slot_named content key m.into.block new

    -- the record of the new name is made, or that of what had it is used again
    pub record IsEnded (end : NameEnd) : Type 0 where
      pub ended : Ended
      pub ended_is : ended_in content top to new ≡ Ok ended
      pub agree : kinds_agree moved.old.inode.kind ended ≡ Ok ended
      pub end_is : end ≡ name_end memory ended
      pub without : ended.inode.kind ≡ kind.Directory → AreWithout state fs ended.inode.block Live 0 (leaf_count + 1)

    abbrev pub IsNaming : Naming → Type 0
    IsNaming (Added addition) = (taken ≡ None) × (addition_in state tree to moved.directory new ≡ Ok addition)
    IsNaming (Replaced end) = IsEnded end

    abbrev pub IsMoving : Naming → Moving → Type 0
    IsMoving naming (Together times) =
        (stands_in naming moved.old.slot.block ≡ true) × (times ≡ newest_times memory moved.old.slot.number (times_of moved.old.inode.fields))
    IsMoving naming (Apart links) =
        (stands_in naming moved.old.slot.block ≡ false) × ((moved.old.inode.fields.links == 2 ^ 32 - 1) ≡ false)
        × (links ≡ links_between state tree moved to (one_more memory moved.old.slot.number moved.old.inode))

    -- the plan of a naming
    abbrev LinkedIn : RenamePlan → Naming → Type 0
    LinkedIn plan naming = (moving : Moving) × IsMoving naming moving × (plan ≡ planned_move moved naming moving)

    linked_so : (plan : RenamePlan) (naming : Naming) → linked_in_room state tree memory moved to naming ≡ Ok plan → LinkedIn plan naming
    linked_so plan naming e = by (stands_in naming moved.old.slot.block) refl e
      where
        more_of : (more : LinkChange) (t : Bool) → (moved.old.inode.fields.links == 2 ^ 32 - 1) ≡ t →
            ◌≡◌ {A = Result LinkChange Fault} (if t then Err TooLarge else Ok (one_more memory moved.old.slot.number moved.old.inode)) (Ok more) →
            ((moved.old.inode.fields.links == 2 ^ 32 - 1) ≡ false) × (one_more memory moved.old.slot.number moved.old.inode ≡ more)
        more_of more true h e = absurd (cc e)
        more_of more false h e = (h, same_done (one_more memory moved.old.slot.number moved.old.inode) more e)

        by : (t : Bool) → stands_in naming moved.old.slot.block ≡ t → (if t then together_in_room state tree memory moved naming
            else and_then (more_links memory moved.old.slot.number moved.old.inode) (apart_in_room state tree memory moved to naming)) ≡ Ok plan → LinkedIn plan naming
        by true h e =
            let times = newest_times memory moved.old.slot.number (times_of moved.old.inode.fields) in
            (Together times, (h, refl), sym (roomy _ (planned_move moved naming (Together times)) plan e))
        by false h e =
            let one = then_ok (more_links memory moved.old.slot.number moved.old.inode) (apart_in_room state tree memory moved to naming) plan e in
            let more = more_of one.0 (moved.old.inode.fields.links == 2 ^ 32 - 1) refl one.1 in
            let links = links_between state tree moved to one.0 in (
              Apart links,
              (h, more.0, ap (links_between state tree moved to) (sym more.1)),
              sym (roomy _ (planned_move moved naming (Apart links)) plan one.2),
            )

    renamed_so : (plan : RenamePlan) (end : Option NameEnd) → rename_in state tree memory moved d to (place_in state tree.fs.number tree.top to new) end ≡ Ok plan →
        (naming : Naming) × (naming_in state tree to moved.directory new end ≡ Ok naming) × LinkedIn plan naming
    renamed_so plan end e = by (not (d == to) && not (is_past state fs memory.last_dir)) e
      where
        by : (t : Bool) → (if t then Err Full else and_then (naming_in state tree to moved.directory new end) (linked_in_room state tree memory moved to)) ≡ Ok plan →
            (naming : Naming) × (naming_in state tree to moved.directory new end ≡ Ok naming) × LinkedIn plan naming
        by true e = absurd (cc e)
        by false e =
            let one = then_ok (naming_in state tree to moved.directory new end) (linked_in_room state tree memory moved to) plan e in
            (one.0, one.1, linked_so plan one.0 one.2)

    moved_plan : (plan : RenamePlan) (end : Option NameEnd) → move_of (rename_in state tree memory moved d to (place_in state tree.fs.number tree.top to new) end) ≡ Ok (Some plan) →
        rename_in state tree memory moved d to (place_in state tree.fs.number tree.top to new) end ≡ Ok plan
    moved_plan plan end e = by (rename_in state tree memory moved d to (place_in state tree.fs.number tree.top to new) end) refl e
      where
        by : (r : Result RenamePlan Fault) → rename_in state tree memory moved d to (place_in state tree.fs.number tree.top to new) end ≡ r → move_of r ≡ Ok (Some plan) → rename_in state tree memory moved d to (place_in state tree.fs.number tree.top to new) end ≡ Ok plan
        by (Ok other) is e = is ∙ ap Ok (same_Some other plan (same_done (Some other) (Some plan) e))
        by (Err fault) is e = absurd (cc e)

    -- what has the new name, and may go

    any_end : (ended : Ended) (end : NameEnd) → IsAnyReplaceable state fs memory ended (Ok end) →
        (end ≡ name_end memory ended) × (ended.inode.kind ≡ kind.Directory → AreWithout state fs ended.inode.block Live 0 (leaf_count + 1))
    any_end ended end any = by (is_kind_directory ended.inode.kind) refl any
      where
        empty : (pending : Bool) → ◌≡◌ {A = Result NameEnd Fault} (Ok end) (if pending then Err Full else Ok (name_end memory ended)) → end ≡ name_end memory ended
        empty true e = absurd (cc e)
        empty false e = same_done end (name_end memory ended) e

        by : (t : Bool) → is_kind_directory ended.inode.kind ≡ t → MatchBool t (IsEmptyReplaceable state fs memory ended (Ok end)) (IsReplaceable state fs memory ended (Ok end)) →
            (end ≡ name_end memory ended) × (ended.inode.kind ≡ kind.Directory → AreWithout state fs ended.inode.block Live 0 (leaf_count + 1))
        by false h (other, is, e) = (
          written_end state tree memory to new end ended other e,
          λ one. absurd (cc (sym (ap is_kind_directory one) ∙ h)),
        )
        by true h (true, has, e) = absurd (cc e)
        by true h (false, none, (pending, has, e)) = (empty pending e, λ one. none)

    agreed : (ended x : Ended) (other own : Bool) → (if other && not own then Err IsDir else if own && not other then Err NotDir else Ok x) ≡ Ok ended → x ≡ ended
    agreed ended x true true e = same_done x ended e
    agreed ended x true false e = absurd (cc e)
    agreed ended x false true e = absurd (cc e)
    agreed ended x false false e = same_done x ended e

    taken_end : (slot : Slot) (end : Option NameEnd) → IsTakenReplaced state tree memory moved.old.inode.kind to new (Some slot) (Ok end) →
        (e : NameEnd) × (end ≡ Some e) × IsEnded e
    taken_end slot end told = by (and_then (ended_in content top to new) (kinds_agree moved.old.inode.kind)) refl told
      where
        by_end : (ended : Ended) → and_then (ended_in content top to new) (kinds_agree moved.old.inode.kind) ≡ Ok ended → (answer : Result NameEnd Fault) →
            IsAnyReplaceable state fs memory ended answer → ◌≡◌ {A = Result (Option NameEnd) Fault} (Ok end) (some_of answer) → (e : NameEnd) × (end ≡ Some e) × IsEnded e
        by_end ended is (Err fault) any e = absurd (cc e)
        by_end ended is (Ok one) any e =
            let x = then_ok (ended_in content top to new) (kinds_agree moved.old.inode.kind) ended is in
            let same : x.0 ≡ ended = agreed ended x.0 (is_kind_directory x.0.inode.kind) (is_kind_directory moved.old.inode.kind) x.2 in
            let a = any_end ended one any in (
              one,
              same_done end (Some one) e,
              record {
                ended = ended;
                ended_is = x.1 ∙ ap Ok same;
                agree = ap (kinds_agree moved.old.inode.kind) (sym same) ∙ x.2;
                end_is = a.0;
                without = a.1;
              },
            )

        by : (r : Result Ended Fault) → and_then (ended_in content top to new) (kinds_agree moved.old.inode.kind) ≡ r →
            MatchResult r (λ ended. (answer : Result NameEnd Fault) × IsAnyReplaceable state fs memory ended answer × (◌≡◌ {A = Result (Option NameEnd) Fault} (Ok end) (some_of answer)))
            (λ fault. ◌≡◌ {A = Result (Option NameEnd) Fault} (Ok end) (Err fault)) → (e : NameEnd) × (end ≡ Some e) × IsEnded e
        by (Ok ended) is (answer, any, e) = by_end ended is answer any e
        by (Err fault) is e = absurd (cc e)

  pub record IsMovePlan (plan : RenamePlan) : Type 0 where
    pub moved : Moved
    pub m : IsMoved state volume d name to new moved
    pub unlike : leads_to (slot_named content key m.into.block new) moved.old.slot.number ≡ false
    pub naming : Naming
    pub named : IsNaming moved m naming
    pub moving : Moving
    pub linked : IsMoving moved m naming moving
    pub plan_is : plan ≡ planned_move moved naming moving

  -- nothing is done
  pub record IsSame : Type 0 where
    pub moved : Moved
    pub m : IsMoved state volume d name to new moved
    pub slot : Slot
    pub slot_is : slot_named content key m.into.block new ≡ Some slot
    pub same : (slot.number == moved.old.slot.number) ≡ true

  abbrev Planned : Option RenamePlan → Type 0
  Planned (Some plan) = IsMovePlan plan
  Planned None = IsSame

  pub plan_so : (plan : Option RenamePlan) → IsRenamePlanned state tree memory d name to new (Ok plan) → Planned plan
  plan_so plan planned = by (moved_in content top d name to new) refl planned
    where
      answer : Result (Option RenamePlan) Fault
      answer = Ok plan

      by_move : (moved : Moved) (m : IsMoved state volume d name to new moved) (o : Option Slot) → slot_named content key m.into.block new ≡ o → leads_to o moved.old.slot.number ≡ false →
          (replaced : Result (Option NameEnd) Fault) → IsTakenReplaced state tree memory moved.old.inode.kind to new o replaced → (plan : Option RenamePlan) →
          ◌≡◌ {A = Result (Option RenamePlan) Fault} (Ok plan) (and_then replaced (λ end. move_of (rename_in state tree memory moved d to (place_in state tree.fs.number tree.top to new) end))) → Planned plan
      by_move moved m o is unlike (Err fault) told plan e = absurd (cc e)
      by_move moved m o is unlike (Ok end) told None e = absurd (never (rename_in state tree memory moved d to (place_in state tree.fs.number tree.top to new) end) e)
        where
          never : (r : Result RenamePlan Fault) → ◌≡◌ {A = Result (Option RenamePlan) Fault} (Ok None) (move_of r) → ⊥
          never (Ok plan) e = absurd (cc e)
          never (Err fault) e = absurd (cc e)
      by_move moved m None is unlike (Ok end) told (Some plan) e =
          let r = renamed_so moved m plan end (moved_plan moved m plan end (sym e)) in
          let none : end ≡ None = same_done end None told in
          let a = then_ok (addition_in state tree to moved.directory new) (λ addition. Ok (Added addition)) r.0
          (ap (naming_in state tree to moved.directory new) (sym none) ∙ r.1) in
          let naming_is : Added a.0 ≡ r.0 = same_done (Added a.0) r.0 a.2 in
          record {
            moved = moved;
            m = m;
            unlike = ap (λ o. leads_to o moved.old.slot.number) is ∙ unlike;
            naming = Added a.0;
            named = (is, a.1);
            moving = r.2.0;
            linked = subst (λ naming. IsMoving moved m naming r.2.0) (sym naming_is) r.2.1;
            plan_is = r.2.2 ∙ ap (λ naming. planned_move moved naming r.2.0) (sym naming_is);
          }
      by_move moved m (Some slot) is unlike (Ok end) told (Some plan) e =
          let r = renamed_so moved m plan end (moved_plan moved m plan end (sym e)) in
          let t = taken_end moved m slot end told in
          let naming_is : Replaced t.0 ≡ r.0 = same_done (Replaced t.0) r.0 (ap (naming_in state tree to moved.directory new) (sym t.1) ∙ r.1) in
          record {
            moved = moved;
            m = m;
            unlike = ap (λ o. leads_to o moved.old.slot.number) is ∙ unlike;
            naming = Replaced t.0;
            named = t.2;
            moving = r.2.0;
            linked = subst (λ naming. IsMoving moved m naming r.2.0) (sym naming_is) r.2.1;
            plan_is = r.2.2 ∙ ap (λ naming. planned_move moved naming r.2.0) (sym naming_is);
          }

      by_slot : (moved : Moved) (m : IsMoved state volume d name to new moved) (o : Option Slot) → slot_named content key m.into.block new ≡ o → (t : Bool) →
          leads_to o moved.old.slot.number ≡ t → (plan : Option RenamePlan) →
          MatchBool t (◌≡◌ {A = Result (Option RenamePlan) Fault} (Ok plan) (Ok None)) (IsMovePlanned state tree memory moved d to new o (Ok plan)) → Planned plan
      by_slot moved m o is false h plan (replaced, told, e) = by_move moved m o is h replaced told plan e
      by_slot moved m None is true h plan e = absurd (cc h)
      by_slot moved m (Some slot) is true h (Some plan) e = absurd (cc e)
      by_slot moved m (Some slot) is true h None e = record { moved = moved; m = m; slot = slot; slot_is = is; same = h }

      by : (r : Result Moved Fault) → moved_in content top d name to new ≡ r →
          MatchResult r (λ moved. MatchResult (taken_in content top to new) (λ taken. MatchBool (leads_to taken moved.old.slot.number)
          (◌≡◌ {A = Result (Option RenamePlan) Fault} (Ok plan) (Ok None)) (IsMovePlanned state tree memory moved d to new taken (Ok plan)))
          (λ fault. ◌≡◌ {A = Result (Option RenamePlan) Fault} (Ok plan) (Err fault)))
          (λ fault. ◌≡◌ {A = Result (Option RenamePlan) Fault} (Ok plan) (Err fault)) → Planned plan
      by (Err fault) is e = absurd (cc e)
      by (Ok moved) is e =
          let m = moved_so state volume d name to new moved is in
          let taken = taken_so state volume to new m.into (for_new state volume d name to new m.from m.into m.there m.there' m.both) in
          by_slot moved m (slot_named content key m.into.block new) refl (leads_to (slot_named content key m.into.block new) moved.old.slot.number) refl plan
          (subst (λ r. MatchResult r (λ taken. MatchBool (leads_to taken moved.old.slot.number)
          (◌≡◌ {A = Result (Option RenamePlan) Fault} (Ok plan) (Ok None)) (IsMovePlanned state tree memory moved d to new taken (Ok plan)))
          (λ fault. ◌≡◌ {A = Result (Option RenamePlan) Fault} (Ok plan) (Err fault))) taken e)
