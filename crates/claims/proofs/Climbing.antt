-- A walk from owner to owner, step by step.
use Rattle.std.proofs.Common.{◌≡◌, ℕ, zero, suc, ◌+◌, ◌-◌, ◌<◌, ◌≤◌, ◌||◌, List, [], ◌∷◌, Option, Some, None, refl, sym, ◌∙◌, ap, arith}
use Rattle.std.specs.Prelude.{option_map, ◌==◌}
use Rattle.std.specs.List.{list_any}
use Rattle.xn_model.specs.Lists.{blocks_of, has_number}
use Rattle.xn_model.specs.Lives.{Life, Lives, life_at, life_owner, climb}
use Rattle.block_cache.specs.Views.{facts_of}
use Rattle.claims.specs.Owned.{owner_in}

facts_owner : (o : Option Life) → owner_in (option_map facts_of o) ≡ life_owner o
facts_owner None = refl
facts_owner (Some l) = refl

abbrev climb_by : ℕ → Lives → ℕ → Option ℕ → ℕ
climb_by n lives b o = elim o [ None ↦ b | Some a ↦ climb n lives a ]

-- it stops at a block without an owner
pub climb_stops : (lives : Lives) (n b : ℕ) → owner_in (option_map facts_of (life_at lives b)) ≡ None → climb n lives b ≡ b
climb_stops lives zero b e = refl
climb_stops lives (suc n) b e = ap (climb_by n lives b) (sym (facts_owner (life_at lives b)) ∙ e)

-- or goes on at the owner, with a step less
pub climb_on : (lives : Lives) (count k b a end : ℕ) → k < count → owner_in (option_map facts_of (life_at lives b)) ≡ Some a → climb (count - k) lives b ≡ end → climb (count - (k + 1)) lives a ≡ end
climb_on lives count k b a end lt owner before =
    let less : count - k ≡ suc (count - (k + 1)) = omega (arith, lt) in
    sym (ap (climb_by (count - (k + 1)) lives b) (sym (facts_owner (life_at lives b)) ∙ owner)) ∙ (ap (λ n. climb n lives b) (sym less) ∙ before)

-- and ends with the steps
pub climb_ends : (lives : Lives) (count k b end : ℕ) → count ≤ k → climb (count - k) lives b ≡ end → b ≡ end
climb_ends lives count k b end le before = let none : count - k ≡ 0 = omega (arith, le) in ap (λ n. climb n lives b) (sym none) ∙ before

-- a block among those of pairs
pub has_block : (ps : List (ℕ × ℕ)) (n : ℕ) → list_any (λ p. p.0 == n) ps ≡ has_number (blocks_of ps) n
has_block [] n = refl
has_block (p ∷ ps) n = ap (λ t. (p.0 == n) || t) (has_block ps n)
