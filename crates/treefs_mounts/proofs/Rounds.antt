-- Rounds of a pass: the last one, one more, and no more of them.
use Rattle.std.proofs.Common.{◌≡◌, ℕ, zero, suc, ◌-◌, ◌<◌, Result, Ok, Err, true, false, arith, inl, inr, refl, subst, sym}
use Rattle.xn_model.specs.Types.{Types}
use Rattle.xn_model.specs.Lives.{StoreState}
use Rattle.treefs_model.specs.declared.fault.Fault.{Fault}
use Rattle.treefs_model.specs.declared.fault.Fault.TheVariants.{Full}
use Rattle.treefs.specs.declared.volume.Volume.{Volume}
use Rattle.treefs_mounts.specs.Opening.{Repeats, RoundDoes, most_rounds}
use Rattle.treefs_mounts.specs.declared.passes.Pass.{Pass}

pub rounds_are : most_rounds ≡ 2097152
unfolding most_rounds
rounds_are = refl

module _ (of : Pass) (T : Types) where
  pub last_done : (left : ℕ) (old new : StoreState) (volume volume' : Volume) → 0 < left → RoundDoes of T old new volume volume' (Ok true) →
      Repeats of T left old new volume volume' (Ok tt)
  last_done zero old new volume volume' lt round = let none : ⊥ = omega arith in absurd none
  last_done (suc n) old new volume volume' lt round = inl round

  pub last_fault : (left : ℕ) (old new : StoreState) (volume volume' : Volume) (fault : Fault) → 0 < left → RoundDoes of T old new volume volume' (Err fault) →
      Repeats of T left old new volume volume' (Err fault)
  last_fault zero old new volume volume' fault lt round = let none : ⊥ = omega arith in absurd none
  last_fault (suc n) old new volume volume' fault lt round = inl round

  pub one_round : (left : ℕ) (old middle new : StoreState) (volume between volume' : Volume) (result : Result (Unit {0}) Fault) → 0 < left →
      RoundDoes of T old middle volume between (Ok false) → Repeats of T (left - 1) middle new between volume' result →
      Repeats of T left old new volume volume' result
  one_round zero old middle new volume between volume' result lt round rest = let none : ⊥ = omega arith in absurd none
  one_round (suc n) old middle new volume between volume' result lt round rest =
      let same : suc n - 1 ≡ n = omega arith in
      inr (middle, between, round, subst (λ (k : ℕ). Repeats of T k middle new between volume' result) same rest)

  pub no_round : (left : ℕ) (old : StoreState) (volume : Volume) → left ≡ 0 → Repeats of T left old old volume volume (Err Full)
  no_round left old volume none = subst (λ (k : ℕ). Repeats of T k old old volume volume (Err Full)) (sym none) (refl, refl, refl)
