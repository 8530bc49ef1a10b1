-- A file's name ends.
use Rattle.std.proofs.Common.{◌≡◌, ◌≢◌, ℕ, Bool, true, false, List, [], ◌∷◌, Option, Result, Ok, Err, refl, sym, ◌∙◌, ap, subst, if◌then◌else◌}
use Rattle.std.specs.Prelude.{All, MatchResult, length}
use Rattle.std.proofs.lemmas.List.Elements.{All-cons, All-nil}
use Rattle.xn_model.specs.Types.{Types}
use Rattle.xn_model.specs.Lives.{StoreState}
use Rattle.treefs_format.specs.declared.kind.Kind.{Kind}
use Rattle.treefs_format.specs.declared.kind.Kind.TheVariants as kind
use Rattle.treefs_model.specs.Acts.{Ran, number_act}
use Rattle.treefs_model.specs.Changes.{unlinked, without_name}
use Rattle.treefs_model.specs.Files.{Files, and_then, found, is_directory}
use Rattle.treefs_model.specs.Reading.{content_at, key_in}
use Rattle.treefs_model.specs.declared.fault.Fault.{Fault}
use Rattle.treefs_model.specs.declared.fault.Fault.TheVariants.{Full, IsDir}
use Rattle.treefs_lookup.specs.Readable.{readable}
use Rattle.treefs_edits.specs.Rooms.{has_room}
use Rattle.treefs_name_plans.specs.Ends.{IsOther, IsUnlinkPlanned, end_acts, end_in_room, ended_in, file_ended, if_no_directory, name_end}
use Rattle.treefs_name_plans.specs.Links.{link_act}
use Rattle.treefs_name_plans.specs.declared.end.EndPlan.{EndPlan}
use Rattle.treefs_name_plans.specs.declared.ended.Ended.{Ended}
use Rattle.treefs.specs.Remembered.{ended_memory}
use Rattle.treefs.specs.Unlinking.{UnlinkDoes}
use Rattle.treefs.specs.declared.volume.Volume.{Volume}
use Rattle.treefs_values.specs.Values.{KeepsBlocks}
use Rattle.treefs_values.proofs.ForCallers.{acts_read}
use Rattle.treefs_laws.specs.Kept.{IsKept, files_in}
use Rattle.treefs_laws.proofs.NamesEnd.{ended_files, ended_kept, inode_seen, number_is}
use Rattle.treefs_laws.proofs.Planned.{ended_is, ran_acts, same_done, then_ok}

-- What was planned

module _ (state : StoreState) (volume : Volume) (d : ℕ) (name : List ℕ) (plan : EndPlan) where
  abbrev content : ℕ → List ℕ
  content = readable state volume.tree.fs.number

  -- the name of a file is found, and ends
  abbrev IsFileEnd : Type 0
  IsFileEnd = (ended : Ended) × (ended_in content volume.tree.top d name ≡ Ok ended) × (ended.inode.kind ≢ kind.Directory) × (plan.end ≡ name_end volume.memory ended)

  no_directory : (e ended : Ended) (k : Kind) → e.inode.kind ≡ k → if_no_directory e k ≡ Ok ended → (e ≡ ended) × (e.inode.kind ≢ kind.Directory)
  no_directory e ended kind.Directory is done = absurd (cc done)
  no_directory e ended kind.File is done = (same_done e ended done, λ z. absurd (cc (sym is ∙ z)))
  no_directory e ended kind.SymbolicLink is done = (same_done e ended done, λ z. absurd (cc (sym is ∙ z)))

  in_room : (ended : Ended) (behind : Option ℕ) (b : Bool) →
      ◌≡◌ {A = Result EndPlan Fault} (Ok plan) (if b then Ok (record { end = name_end volume.memory ended; behind = behind }) else Err Full) →
      plan.end ≡ name_end volume.memory ended
  in_room ended behind true e = ap (λ (p : EndPlan). p.end) (same_done plan (record { end = name_end volume.memory ended; behind = behind }) e)
  in_room ended behind false e = absurd (cc e)

  planned_end : IsUnlinkPlanned state volume.tree volume.memory d name (Ok plan) → IsFileEnd
  planned_end planned = by (file_ended content volume.tree.top d name) refl planned
    where
      by : (r : Result Ended Fault) → file_ended content volume.tree.top d name ≡ r →
          MatchResult r (λ ended. (other : Result (Option ℕ) Fault) × IsOther state volume.tree.fs.number volume.memory ended other
          × (◌≡◌ {A = Result EndPlan Fault} (Ok plan) (and_then other (end_in_room state volume.tree.fs.number volume.memory ended))))
          (λ fault. ◌≡◌ {A = Result EndPlan Fault} (Ok plan) (Err fault)) → IsFileEnd
      by (Err fault) is e = absurd (cc e)
      by (Ok ended) is (Err fault, other, e) = absurd (cc e)
      by (Ok ended) is (Ok behind, other, e) =
          let x = then_ok (ended_in content volume.tree.top d name) (λ (e : Ended). if_no_directory e e.inode.kind) ended is in
          let n = no_directory x.0 ended x.0.inode.kind refl x.2 in (
            ended,
            x.1 ∙ ap Ok n.0,
            λ z. n.1 (ap (λ (e : Ended). e.inode.kind) n.0 ∙ z),
            in_room ended behind (has_room state volume.tree.fs.number (length volume.memory.touched) 4 ((ended.slot.block, 2) ∷ (ended.inode.block, 1) ∷ [])) e,
          )

-- What it makes of the volume

pub not_directory : (content : ℕ → List ℕ) (key : List ℕ) (block parent : ℕ) (k : Kind) → k ≢ kind.Directory → is_directory (content_at content key block parent k) ≡ false
not_directory content key block parent kind.Directory ne = absurd (ne refl)
not_directory content key block parent kind.File ne = refl
not_directory content key block parent kind.SymbolicLink ne = refl

module _ (T : Types) (state state' : StoreState) (volume volume' : Volume) (d : ℕ) (name : List ℕ) (kept : IsKept T state volume) where
  abbrev fs : ℕ
  fs = volume.tree.fs.number

  abbrev seen : Files
  seen = files_in state volume

  abbrev Said : Volume → Type 0
  Said v = IsKept T state' v × (unlinked seen volume.memory.clock d name ≡ Ok (files_in state' v))

  keeps : (ended : Ended) (behind : Option ℕ) → All KeepsBlocks (end_acts (name_end volume.memory ended) behind)
  keeps ended behind =
      let end = name_end volume.memory ended in
      All-cons KeepsBlocks (number_act end.block end.offset 0 behind) (link_act end.fewer end.block ∷ []) refl
      (All-cons KeepsBlocks (link_act end.fewer end.block) [] refl (All-nil KeepsBlocks))

  by_plan : (plan : EndPlan) → IsFileEnd state volume d name plan → Ran T fs (end_acts plan.end plan.behind) state state' (Ok tt) →
      volume' ≡ record volume { memory = ended_memory volume.memory d plan.end } → Said volume'
  by_plan plan (ended, found_so, no_directory, end_is) ran is =
      let at = ended_is (readable state fs) volume.tree.top d name ended found_so in
      let read = acts_read T fs (end_acts (name_end volume.memory ended) plan.behind) state state' kept.store (keeps ended plan.behind)
      (subst (λ end. Ran T fs (end_acts end plan.behind) state state' (Ok tt)) end_is ran) in
      let later_is : record volume { memory = ended_memory volume.memory d (name_end volume.memory ended) } ≡ volume' =
      sym (is ∙ ap (λ end. record volume { memory = ended_memory volume.memory d end }) end_is) in
      let done = without_name seen volume.memory.clock d name ended.slot.number in
      subst Said later_is (
        ended_kept T state state' volume kept d name ended at.0 at.1 plan.behind read,
        ap (λ r. and_then r (λ n. and_then (found seen n) (λ inode. if is_directory inode.content then Err IsDir else Ok (without_name seen volume.memory.clock d name n))))
            (number_is T state state' volume kept d name ended at.0 at.1 plan.behind)
            ∙ (ap (λ r. and_then r (λ inode. if is_directory inode.content then Err IsDir else Ok done))
            (inode_seen T state state' volume kept d name ended at.0 at.1 plan.behind)
            ∙ (ap (λ b. if b then Err IsDir else Ok done)
            (not_directory (readable state fs) (key_in (readable state fs) volume.tree.top) ended.inode.block ended.inode.fields.parent ended.inode.kind no_directory)
            ∙ ap Ok (sym (ended_files T state state' volume kept d name ended at.0 at.1 plan.behind read)))),
      )

  pub unlinked_so : UnlinkDoes T state state' volume volume' d name (Ok tt) → Said volume'
  unlinked_so (Err fault, planned, none, is) = absurd none
  unlinked_so (Ok plan, planned, does, is) =
      by_plan plan (planned_end state volume d name plan planned) (ran_acts T fs (end_acts plan.end plan.behind) state state' does) is
