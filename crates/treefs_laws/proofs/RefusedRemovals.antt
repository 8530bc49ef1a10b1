-- `rmdir` that is refused.
use Rattle.std.proofs.Common.{◌≡◌, ◌⊎◌, ℕ, ℤ, ◌+◌, Bool, true, false, not, List, [], ◌∷◌, Result, Ok, Err, refl, sym, ◌∙◌, ap, inl, inr, subst, if◌then◌else◌}
use Rattle.std.specs.Prelude.{MatchBool, MatchResult, length}
use Rattle.xn_model.specs.Types.{Types}
use Rattle.xn_model.specs.Lives.{StoreState}
use Rattle.treefs_format.specs.declared.kind.Kind.{Kind}
use Rattle.treefs_format.specs.declared.kind.Kind.TheVariants as kind
use Rattle.treefs_model.specs.Changes.{without_name}
use Rattle.treefs_model.specs.Files.{Files, Inode, and_then, is_directory, when}
use Rattle.treefs_model.specs.Reading.{content_at, key_in}
use Rattle.treefs_model.specs.declared.fault.Fault.{Fault}
use Rattle.treefs_model.specs.declared.fault.Fault.TheVariants.{Full, NotDir, NotEmpty}
use Rattle.treefs_lookup.specs.Readable.{readable}
use Rattle.treefs_lookup.specs.declared.names.Slot.{Slot}
use Rattle.treefs_lookup.specs.declared.sought.Sought.TheVariants.{Live}
use Rattle.treefs_edits.specs.Rooms.{has_room}
use Rattle.treefs_name_plans.specs.Ends.{directory_ended, ended_in, if_directory}
use Rattle.treefs_name_plans.specs.Removals.{HasBucket, IsRemoval, IsRemovalPlanned, IsRmdirPlanned, removal_plan}
use Rattle.treefs_name_plans.specs.declared.ended.Ended.{Ended}
use Rattle.treefs_name_plans.specs.declared.name_end.NameEnd.{NameEnd}
use Rattle.treefs_name_plans.specs.declared.removal.RemovalPlan.{RemovalPlan}
use Rattle.treefs.specs.Unlinking.{RmdirDoes, ended_volume}
use Rattle.treefs.specs.declared.volume.Volume.{Volume}
use Rattle.treefs_laws.specs.Kept.{IsKept, files_in}
use Rattle.treefs_laws.specs.Refusals.{IsNotRemoved, IsRefused}
use Rattle.treefs_laws.proofs.Answering.{ended_so, no_directory_ended, number_so}
use Rattle.treefs_laws.proofs.Filled.{filled}
use Rattle.treefs_laws.proofs.Planned.{ended_is, same_done, same_fault, then_ok}
use Rattle.treefs_laws.proofs.RefusedNames.{planned_refused}

of_directory : (e ended : Ended) (k : Kind) → e.inode.kind ≡ k → if_directory e k ≡ Ok ended → (e ≡ ended) × (e.inode.kind ≡ kind.Directory)
of_directory e ended kind.Directory is done = (same_done e ended done, is)
of_directory e ended kind.File is done = absurd (cc done)
of_directory e ended kind.SymbolicLink is done = absurd (cc done)

one_directory : (content : ℕ → List ℕ) (key : List ℕ) (block parent : ℕ) (k : Kind) → k ≡ kind.Directory → is_directory (content_at content key block parent k) ≡ true
one_directory content key block parent kind.Directory is = refl
one_directory content key block parent kind.File is = absurd (cc is)
one_directory content key block parent kind.SymbolicLink is = absurd (cc is)

module _ (T : Types) (state state' : StoreState) (volume volume' : Volume) (kept : IsKept T state volume) (d : ℕ) (name : List ℕ) (g : Fault) where
  abbrev fs : ℕ
  fs = volume.tree.fs.number

  abbrev content : ℕ → List ℕ
  content = readable state fs

  abbrev top : ℕ
  top = volume.tree.top

  abbrev seen : Files
  seen = files_in state volume

  abbrev clock : ℤ
  clock = volume.memory.clock

  abbrev Answered : Type 0
  Answered = IsNotRemoved seen clock d name g

  abbrev done : Bool → ℕ → Result Files Fault
  done empty n = when empty (without_name seen clock d name n) NotEmpty

  not_empty : (ended : Ended) → directory_ended content top d name ≡ Ok ended → HasBucket state fs ended.inode.block Live true → g ≡ NotEmpty → Answered
  not_empty ended is (bucket, next) full =
      let x = then_ok (ended_in content top d name) (λ (e : Ended). if_directory e e.inode.kind) ended is in
      let k = of_directory x.0 ended x.0.inode.kind refl x.2 in
      let found_so : ended_in content top d name ≡ Ok ended = x.1 ∙ ap Ok k.0 in
      let one : ended.inode.kind ≡ kind.Directory = ap (λ (e : Ended). e.inode.kind) (sym k.0) ∙ k.1 in
      let at = ended_is content top d name ended found_so in
      record {
        empty = false;
        answers = ended_so state volume d name (λ n (inode : Inode). if not (is_directory inode.content) then Err NotDir else done false n) ended found_so
            ∙ (ap (λ b. if not b then Err NotDir else done false ended.slot.number) (one_directory content (key_in content top) ended.inode.block ended.inode.fields.parent ended.inode.kind one)
            ∙ ap Err (sym full));
        filled = λ is_false. (
          ended.slot.number,
          number_so state volume d name ∙ ap (λ r. and_then r (λ (slot : Slot). Ok slot.number)) at.0,
          filled T state volume kept ended.slot.number ended.inode at.1 one bucket next,
        );
      }

  no_room : (ended : Ended) → IsRemovalPlanned state fs volume.memory ended (Err g) → g ≡ Full
  no_room ended (inl (many, e)) = same_fault g Full e
  no_room ended (inr (pending, are, is)) =
      by (has_room state fs (length volume.memory.touched) (4 + length pending) ((ended.slot.block, 1 + length pending) ∷ (ended.inode.block, 1) ∷ [])) is
    where
      by : (b : Bool) → MatchBool b (MatchResult (Err g) (IsRemoval state fs volume.memory ended pending) (λ fault. ⊥)) (◌≡◌ {A = Result RemovalPlan Fault} (Err g) (Err Full)) → g ≡ Full
      by true none = absurd none
      by false e = same_fault g Full e

  removal_fault : IsRmdirPlanned state volume.tree volume.memory d name (Err g) → Answered ⊎ (g ≡ Full)
  removal_fault planned = by (directory_ended content top d name) refl planned
    where
      by : (r : Result Ended Fault) → directory_ended content top d name ≡ r →
          MatchResult r (λ ended. (live : Bool) × HasBucket state fs ended.inode.block Live live
          × MatchBool live (◌≡◌ {A = Result RemovalPlan Fault} (Err g) (Err NotEmpty)) (IsRemovalPlanned state fs volume.memory ended (Err g)))
          (λ fault. ◌≡◌ {A = Result RemovalPlan Fault} (Err g) (Err fault)) → Answered ⊎ (g ≡ Full)
      by (Err fault) is e = inl (record {
        empty = true;
        answers = no_directory_ended state volume d name (done true) g (is ∙ ap Err (sym (same_fault g fault e)));
        filled = λ none. absurd (cc none);
      })
      by (Ok ended) is (true, has, e) = inl (not_empty ended is has (same_fault g NotEmpty e))
      by (Ok ended) is (false, none, planned) = inr (no_room ended planned)

  pub rmdir_refused : RmdirDoes T state state' volume volume' d name (Err g) → IsRefused state state' volume volume' g (Answered ⊎ (g ≡ Full))
  rmdir_refused (planned, is_planned, does, same) = (
    same ∙ left (and_then planned (λ plan. Ok plan.end)),
    elim (planned_refused T fs removal_plan planned state state' g does) [
      | inl none ↦ inl (none.0, removal_fault (subst (IsRmdirPlanned state volume.tree volume.memory d name) none.1 is_planned))
      | inr store ↦ inr store
    ],
  )
    where
      left : (r : Result NameEnd Fault) → ended_volume volume d r (Err g) ≡ volume
      left (Ok end) = refl
      left (Err fault) = refl
