-- Tries of a call: the last one, one more, and no more of them.
use Rattle.std.proofs.Common.{◌≡◌, ℕ, zero, suc, ◌-◌, ◌<◌, None, Some, Result, Err, arith, inl, inr, refl, subst, sym}
use Rattle.xn_model.specs.Types.{Types}
use Rattle.xn_model.specs.Lives.{StoreState}
use Rattle.treefs_model.specs.declared.fault.Fault.{Fault}
use Rattle.treefs_model.specs.declared.fault.Fault.TheVariants.{Full}
use Rattle.treefs.specs.declared.volume.Volume.{Volume}
use Rattle.treefs_session.specs.Tries.{Tries, TriesOnce, most_tries}

pub tries_are : most_tries ≡ 1048576
unfolding most_tries
tries_are = refl

module _ {A : Type 0} (Does : StoreState → StoreState → Volume → Volume → Result A Fault → Type 0) (T : Types) where
  pub last_try : (left : ℕ) (old new : StoreState) (volume volume' : Volume) (result : Result A Fault) → 0 < left →
      TriesOnce Does T old new volume volume' (Some result) → Tries Does T left old new volume volume' result
  last_try zero old new volume volume' result lt try = let none : ⊥ = omega arith in absurd none
  last_try (suc n) old new volume volume' result lt try = inl try

  pub one_try : (left : ℕ) (old middle new : StoreState) (volume between volume' : Volume) (result : Result A Fault) → 0 < left →
      TriesOnce Does T old middle volume between None → Tries Does T (left - 1) middle new between volume' result →
      Tries Does T left old new volume volume' result
  one_try zero old middle new volume between volume' result lt try rest = let none : ⊥ = omega arith in absurd none
  one_try (suc n) old middle new volume between volume' result lt try rest =
      let same : suc n - 1 ≡ n = omega arith in
      inr (middle, between, try, subst (λ (k : ℕ). Tries Does T k middle new between volume' result) same rest)

  pub no_try : (left : ℕ) (old : StoreState) (volume : Volume) → left ≡ 0 → Tries Does T left old old volume volume (Err Full)
  no_try left old volume none = subst (λ (k : ℕ). Tries Does T k old old volume volume (Err Full)) (sym none) (refl, refl, refl)
