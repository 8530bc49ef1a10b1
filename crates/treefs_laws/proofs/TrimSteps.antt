-- Parts of a trim, one after another, keep what each of them keeps.
use Rattle.std.proofs.Common.{◌≡◌, ℕ, zero, suc, ◌-◌, Bool, true, false, [], ◌∷◌, length, Option, None, Some, Result, Ok, Err, refl, sym, inl, inr, subst}
use Rattle.std.specs.Prelude.{MatchBool, MatchOption, MatchResult}
use Rattle.xn_model.specs.Types.{Types}
use Rattle.xn_model.specs.Lives.{StoreState}
use Rattle.treefs_format.specs.Paths.{node_offset}
use Rattle.treefs_model.specs.Acts.{Act, Ran, drop_act}
use Rattle.treefs_model.specs.declared.fault.Fault.{Fault}
use Rattle.treefs_model.specs.declared.fault.Fault.TheVariants.{Full}
use Rattle.treefs_lookup.specs.Readable.{readable}
use Rattle.treefs_edits.specs.Memories.{Memory}
use Rattle.treefs_edits.specs.Plans.{Does}
use Rattle.treefs_edits.specs.Rooms.{has_room}
use Rattle.treefs_byte_plans.specs.Cuts.{next_cut}
use Rattle.treefs_byte_plans.specs.Drops.{IsCutPlanned, IsDropPlanned, drop_acts, planned_drop}
use Rattle.treefs_byte_plans.specs.declared.cuts.Cut.{Cut}
use Rattle.treefs_byte_plans.specs.declared.drop_plan.DropPlan.{DropPlan}
use Rattle.treefs_byte_plans.specs.declared.kept.Kept.{Kept}
use Rattle.treefs.specs.Trimming.{Drops, EndsDrops, Then}
use Rattle.treefs_laws.proofs.CutWays.{IsNextCut, next_is}
use Rattle.treefs_laws.proofs.Planned.{ran_acts}
use Rattle.treefs_laws.proofs.TimesWritten.{refused_whole}

-- At: what holds of a state; Stay: of two of them, one before the other
module _ (At : StoreState → Type 0) (Stay : StoreState → StoreState → Type 0) (same : (s : StoreState) → At s → Stay s s)
    (after : (old new : StoreState) → Stay old new → At new) (chain : (old middle new : StoreState) → Stay old middle → Stay middle new → Stay old new) where
  pub unchanged : (old new : StoreState) → At old → new ≡ old → Stay old new
  unchanged old new at is = subst (Stay old) (sym is) (same old at)

  abbrev pub Keeps : (StoreState → StoreState → Result (Unit {0}) Fault → Type 0) → Type 0
  Keeps Part = (old new : StoreState) (result : Result (Unit {0}) Fault) → At old → Part old new result → Stay old new

  -- one part, and then another
  pub both_keep : (First Next : StoreState → StoreState → Result (Unit {0}) Fault → Type 0) → Keeps First → Keeps Next → Keeps (Then First Next)
  both_keep First Next first next old new result at (inl failed) = by result failed
    where
      by : (r : Result (Unit {0}) Fault) → MatchResult r (λ done. ⊥) (λ fault. First old new (Err fault)) → Stay old new
      by (Ok done) none = absurd none
      by (Err fault) does = first old new (Err fault) at does
  both_keep First Next first next old new result at (inr r) =
      let one = first old r.0 (Ok tt) at r.1 in chain old r.0 new one (next r.0 new result (after old r.0 one) r.2)

  module _ (T : Types) (fs : ℕ) where
    -- an edit, made or refused
    pub act_keeps : (act : Act) (old new : StoreState) (result : Result (Unit {0}) Fault) → At old → (Ran T fs (act ∷ []) old new (Ok tt) → Stay old new) →
        Does T fs (record { starts = []; acts = λ begun. act ∷ [] }) old new result → Stay old new
    act_keeps act old new (Ok tt) at keeps does = keeps (ran_acts T fs (act ∷ []) old new does)
    act_keeps act old new (Err fault) at keeps does = unchanged old new at (refused_whole T fs act old new fault does)

    -- drops of pointers of nodes, one after another
    module _ (memory : Memory) (c keep : ℕ)
        (cut_keeps : (old new : StoreState) (cut : Cut) → At old → IsNextCut (readable old fs) c keep cut →
        Ran T fs (planned_drop (readable old fs) c cut) old new (Ok tt) → Stay old new) where
      planned_acts : (old : StoreState) (cut : Cut) (plan : DropPlan) (t : Bool) → has_room old fs (length memory.touched) 10 ((cut.block, 1) ∷ []) ≡ t →
          IsCutPlanned old fs memory c cut (Ok (Some plan)) → drop_acts plan ≡ planned_drop (readable old fs) c cut
      planned_acts old cut plan true e planned =
          subst (λ t. MatchBool t (drop_acts plan ≡ planned_drop (readable old fs) c cut)
          (◌≡◌ {A = Result (Option DropPlan) Fault} (Ok (Some plan)) (Err Full))) e planned
      planned_acts old cut plan false e planned =
          absurd (cc (subst (λ t. MatchBool t (drop_acts plan ≡ planned_drop (readable old fs) c cut)
          (◌≡◌ {A = Result (Option DropPlan) Fault} (Ok (Some plan)) (Err Full))) e planned))

      drop_keeps : (old new : StoreState) → At old → (plan : DropPlan) → IsDropPlanned old fs memory c keep (Ok (Some plan)) →
          Ran T fs (drop_acts plan) old new (Ok tt) → Stay old new
      drop_keeps old new at plan planned ran = by (next_cut (readable old fs) c keep) refl planned
        where
          by : (o : Option Cut) → next_cut (readable old fs) c keep ≡ o →
              MatchOption o (◌≡◌ {A = Result (Option DropPlan) Fault} (Ok (Some plan)) (Ok None)) (λ cut. IsCutPlanned old fs memory c cut (Ok (Some plan))) →
              Stay old new
          by None is none = absurd (cc none)
          by (Some cut) is planned =
              let acts = planned_acts old cut plan (has_room old fs (length memory.touched) 10 ((cut.block, 1) ∷ [])) refl planned in
              cut_keeps old new cut at (next_is (readable old fs) c keep cut is) (subst (λ acts. Ran T fs acts old new (Ok tt)) acts ran)

      module _ (kept_is : Kept) (of_inode : kept_is.inode ≡ c) (of_keep : kept_is.keep ≡ keep) where
        planned_here : (old : StoreState) (r : Result (Option DropPlan) Fault) → IsDropPlanned old fs memory kept_is.inode kept_is.keep r →
            IsDropPlanned old fs memory c keep r
        planned_here old r planned = subst (λ x. IsDropPlanned old fs memory x keep r) of_inode
            (subst (λ x. IsDropPlanned old fs memory kept_is.inode x r) of_keep planned)

        end_keeps : (planned : Result (Option DropPlan) Fault) → Keeps (EndsDrops T fs planned)
        end_keeps (Ok None) old new result at does = unchanged old new at does.1
        end_keeps (Ok (Some plan)) old new (Ok done) at does = absurd does
        end_keeps (Ok (Some plan)) old new (Err fault) at does =
            unchanged old new at (refused_whole T fs (drop_act plan.block (node_offset plan.place) (127 - plan.place) plan.blocks.items (Some plan.inode)) old
            new fault does)
        end_keeps (Err fault) old new result at does = unchanged old new at does.1

        pub drops_keep : (left : ℕ) → Keeps (Drops T fs memory kept_is left)
        drops_keep zero old new result at does = unchanged old new at does.1
        drops_keep (suc left) old new result at (inl r) = end_keeps r.0 old new result at r.2
        drops_keep (suc left) old new result at (inr r) =
            let one = drop_keeps old r.1 at r.0 (planned_here old (Ok (Some r.0)) r.2) (ran_acts T fs (drop_acts r.0) old r.1 r.3) in
            chain old r.1 new one (drops_keep left r.1 new result (after old r.1 one) r.4)
