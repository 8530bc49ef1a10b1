-- The rows of the claims, one at a time.
use Rattle.std.proofs.Common.{◌≡◌, ℕ, ◌+◌, ◌<◌, ◌≤◌, Bool, true, false, not, ◌&&◌, leb, List, ◌∷◌, get_or, set, refl, ap, ◌∙◌}
use Rattle.std.specs.Prelude.{Result, Err}
use Rattle.std.proofs.lemmas.Bool.{lt-leb, le-leb}
use Rattle.udf_code.specs.Tree.{Claim}
use Rattle.udf_verify.specs.declared.fault.FaultKind.TheVariants as kind
use Rattle.udf_verify.specs.declared.fault.VerifyFault.{VerifyFault}
use Rattle.udf_verify.specs.Intervals.{Interval, high_of}
use Rattle.udf_verify.specs.Bounds.{demand, placed, claims_row, ◌>>=◌}

-- the row of a claim, at what its two tests say
row_of : ℕ → List Bool → ℕ → List Claim → List Interval → Bool → Bool → Result (Unit {0}) VerifyFault
row_of at taken a claims ivs free low = placed at (demand (not free && low) kind.Keep (tt {0})) >>= (λ u. claims_row (at + 1) (set taken a true) claims ivs)

module _ (at : ℕ) (taken : List Bool) (a n : ℕ) (claims : List Claim) (ivs : List Interval) where
  abbrev row : Result (Unit {0}) VerifyFault
  row = claims_row at taken (record { register = a; most = n } ∷ claims) ivs

  abbrev fault : Result (Unit {0}) VerifyFault
  fault = Err (record { at = at; kind = kind.Keep })

  row_is : row ≡ row_of at taken a claims ivs (get_or taken a false) (leb (high_of ivs a) n)
  unfolding row_of
  row_is = refl

  pub row_taken : get_or taken a false ≡ true → row ≡ fault
  unfolding row_of
  row_taken h = row_is ∙ ap (λ f. row_of at taken a claims ivs f (leb (high_of ivs a) n)) h

  pub row_high : n < high_of ivs a → row ≡ fault
  unfolding row_of
  row_high h = row_is ∙ ap (λ l. row_of at taken a claims ivs (get_or taken a false) l) (lt-leb _ _ h) ∙ either (get_or taken a false)
    where
      either : (f : Bool) → row_of at taken a claims ivs f false ≡ fault
      either true = refl
      either false = refl

  pub row_fine : get_or taken a false ≡ false → high_of ivs a ≤ n → row ≡ claims_row (at + 1) (set taken a true) claims ivs
  unfolding row_of
  row_fine f h = row_is ∙ ap (λ b. row_of at taken a claims ivs b (leb (high_of ivs a) n)) f ∙ ap (λ l. row_of at taken a claims ivs false l) (le-leb _ _ h)
