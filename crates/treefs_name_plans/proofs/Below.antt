-- A step up from a directory to the one in which it stands.
use Rattle.std.proofs.Common.{◌≡◌, ℕ, zero, suc, ◌-◌, ◌<◌, ◌==◌, List, Bool, false, true, ap, arith, eq-eqb, sym, ◌∙◌, if◌then◌else◌}
use Rattle.std.proofs.lemmas.Bool.{ne_eqb}
use Rattle.treefs_name_plans.specs.Moves.{is_below, parent_of}

module _ (content : ℕ → List ℕ) (top n : ℕ) where
  pub above_none : (steps d : ℕ) → steps ≡ 0 → is_below content top n steps d ≡ false
  unfolding is_below
  above_none steps d e = ap (λ (k : ℕ). is_below content top n k d) e

  abbrev stepped : ℕ → ℕ → Bool → Bool → Bool
  stepped steps p is_found is_last = if is_found then true else if is_last then false else is_below content top n steps p

  above_some : (steps d p : ℕ) → p ≡ parent_of content top d → 0 < steps → is_below content top n steps d ≡ stepped (steps - 1) p (d == n) (p == d)
  unfolding is_below
  above_some zero d p is some = absurd (omega (arith, some))
  above_some (suc steps) d p is some =
      let less : steps ≡ suc steps - 1 = omega arith in
      ap (λ (q : ℕ). stepped steps q (d == n) (q == d)) (sym is) ∙ ap (λ (k : ℕ). stepped k p (d == n) (p == d)) less

  pub above_found : (steps d : ℕ) → 0 < steps → d ≡ n → is_below content top n steps d ≡ true
  above_found steps d some same =
      let p = parent_of content top d in
      above_some steps d p (λ i. p) some ∙ ap (λ (b : Bool). stepped (steps - 1) p b (p == d)) (eq-eqb d n same)

  pub above_last : (steps d p : ℕ) → p ≡ parent_of content top d → 0 < steps → (d ≡ n → ⊥) → p ≡ d → is_below content top n steps d ≡ false
  above_last steps d p is some other last =
      above_some steps d p is some ∙ (ap (λ (b : Bool). stepped (steps - 1) p b (p == d)) (ne_eqb d n other) ∙ ap (stepped (steps - 1) p false) (eq-eqb p d last))

  pub above_next : (steps d p : ℕ) → p ≡ parent_of content top d → 0 < steps → (d ≡ n → ⊥) → (p ≡ d → ⊥) → is_below content top n steps d ≡ is_below content top n (steps - 1) p
  above_next steps d p is some other more =
      above_some steps d p is some ∙ (ap (λ (b : Bool). stepped (steps - 1) p b (p == d)) (ne_eqb d n other) ∙ ap (stepped (steps - 1) p false) (ne_eqb p d more))
