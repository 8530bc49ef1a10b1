-- The next number, and each after it, is no pending entry's.
use Rattle.std.proofs.Common.{◌≡◌, ℕ, ◌<◌, ◌≤◌, Bool, true, false, Option, Some, None, refl, arith}
use Rattle.std.specs.Prelude.{◌==◌}
use Rattle.std.proofs.lemmas.Bool.{eqb-true}
use Rattle.xn_model.specs.Lives.{BlockState, Life, StoreState, has_entry, life_at}
use Rattle.xn_model.specs.Rules.{IsConsistent}
use Rattle.xn_model.specs.Types.{Types}
use Rattle.xn_model.proofs.ForCallers.{any_at, below_next}
use Rattle.dependencies.specs.Pending.{pends}

pub none_from : (T : Types) (state : StoreState) → IsConsistent T state → (n b : ℕ) → state.next ≤ n → pends n (life_at state.lives b) ≡ false
none_from T state rules n b above = by (life_at state.lives b) refl
  where
    by : (o : Option Life) → life_at state.lives b ≡ o → pends n o ≡ false
    by None e = refl
    by (Some l) e = none (has_entry l.pending n) refl
      where
        none : (t : Bool) → has_entry l.pending n ≡ t → has_entry l.pending n ≡ false
        none false is = is
        none true is =
            let found = any_at (λ (s : BlockState). s.entry == n) l.pending is in
            let below : found.0.entry < state.next = (below_next T state rules).entries b l found.0 e found.1 in
            let same : found.0.entry ≡ n = eqb-true found.0.entry n found.2 in
            absurd (omega (arith, above, below, same))

pub none_next : (T : Types) (state : StoreState) → IsConsistent T state → (b : ℕ) → pends state.next (life_at state.lives b) ≡ false
none_next T state rules b = none_from T state rules state.next b (omega arith)
