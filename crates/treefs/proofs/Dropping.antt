-- Drops, one after another: the last one, one more, and no more of them.
use Rattle.std.proofs.Common.{◌≡◌, ℕ, zero, suc, ◌-◌, ◌<◌, Result, Ok, Err, Option, Some, arith, inl, inr, refl, subst, sym}
use Rattle.xn_model.specs.Types.{Types}
use Rattle.xn_model.specs.Lives.{StoreState}
use Rattle.treefs_model.specs.declared.fault.Fault.{Fault}
use Rattle.treefs_model.specs.declared.fault.Fault.TheVariants.{Full}
use Rattle.treefs_edits.specs.Memories.{Memory}
use Rattle.treefs_edits.specs.Plans.{Does}
use Rattle.treefs_byte_plans.specs.Drops.{IsDropPlanned, drop_plan}
use Rattle.treefs_byte_plans.specs.declared.drop_plan.DropPlan.{DropPlan}
use Rattle.treefs_byte_plans.specs.declared.kept.Kept.{Kept}
use Rattle.treefs.specs.Trimming.{Drops, EndsDrops, most_drops}

pub most_is : most_drops ≡ 4096
unfolding most_drops
most_is = refl

module _ (T : Types) (fs : ℕ) (memory : Memory) (kept : Kept) where
  pub last_drop : (left : ℕ) (planned : Result (Option DropPlan) Fault) (old new : StoreState) (result : Result (Unit {0}) Fault) → 0 < left →
      IsDropPlanned old fs memory kept.inode kept.keep planned → EndsDrops T fs planned old new result → Drops T fs memory kept left old new result
  last_drop zero planned old new result lt is ends = let none : ⊥ = omega arith in absurd none
  last_drop (suc n) planned old new result lt is ends = inl (planned, is, ends)

  pub one_drop : (left : ℕ) (plan : DropPlan) (old middle new : StoreState) (result : Result (Unit {0}) Fault) → 0 < left →
      IsDropPlanned old fs memory kept.inode kept.keep (Ok (Some plan)) → Does T fs (drop_plan plan) old middle (Ok tt) →
      Drops T fs memory kept (left - 1) middle new result → Drops T fs memory kept left old new result
  one_drop zero plan old middle new result lt is does rest = let none : ⊥ = omega arith in absurd none
  one_drop (suc n) plan old middle new result lt is does rest =
      let same : suc n - 1 ≡ n = omega arith in
      inr (plan, middle, is, does, subst (λ (k : ℕ). Drops T fs memory kept k middle new result) same rest)

  pub no_drop : (left : ℕ) (old : StoreState) → left ≡ 0 → Drops T fs memory kept left old old (Err Full)
  no_drop left old none = subst (λ (k : ℕ). Drops T fs memory kept k old old (Err Full)) (sym none) (refl, refl)
