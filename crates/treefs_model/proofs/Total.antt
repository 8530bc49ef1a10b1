-- Sums over blocks.
use Rattle.std.proofs.Common.{ℕ, zero, suc, ◌+◌, ◌<◌, ◌≤◌, inl, inr, arith, subst, sym}
use Rattle.std.specs.Prelude.{◌≢◌}
use Rattle.std.proofs.lemmas.Bool.{cases_eq}
use Rattle.treefs_model.specs.Links.{total}

pub total_le : (n : ℕ) (f g : ℕ → ℕ) → ((c : ℕ) → c < n → f c ≤ g c) → total n f ≤ total n g
total_le zero f g h = omega arith
total_le (suc n) f g h = let rest = total_le n f g (λ c lt. h c (omega arith)) in let here = h n (omega arith) in omega arith

-- where one term changes
pub total_at : (n b : ℕ) (f g : ℕ → ℕ) (x y : ℕ) → b < n → ((c : ℕ) → c ≢ b → f c ≤ g c) → f b + x ≤ g b + y → total n f + x ≤ total n g + y
total_at zero b f g x y lt h at = absurd (omega arith)
total_at (suc n) b f g x y lt h at = elim (cases_eq b n) [
  | inl same ↦
      let rest = total_le n f g (λ c below. h c (λ e. absurd (let z = same in omega arith))) in
      let here : f n + x ≤ g n + y = subst (λ c. f c + x ≤ g c + y) same at in
      omega arith
  | inr ne ↦
      let rest = total_at n b f g x y (omega (arith, ne)) h at in
      let here = h n (λ e. ne (sym e)) in
      omega arith
]
