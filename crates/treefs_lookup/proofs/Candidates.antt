-- The candidates of a name, level after level.
--     later hash level    those of a level and of higher ones
use Rattle.std.proofs.Common.{◌≡◌, ℕ, zero, suc, ◌+◌, ◌-◌, ◌<◌, ◌≤◌, List, [], ◌∷◌, refl, ◌∙◌, ap, arith, subst}
use Rattle.std.specs.Prelude.{Bool, Option, Some, None, ◌||◌, false, map}
use Rattle.std.specs.List.{list_any, range_with_len}
use Rattle.std.specs.Option.{option_or}
use Rattle.treefs_format.specs.Candidates.{candidate, candidates, first_bucket}
use Rattle.treefs_lookup.specs.Names.{first_some}

unfoldable pub later : ℕ → ℕ → List ℕ
later hash level = map (candidate hash) (range_with_len level (9 - level))

pub later_first : (hash : ℕ) → later hash 0 ≡ candidates hash
unfolding later
later_first hash = refl

pub later_more : (hash level : ℕ) → level < 9 → later hash level ≡ candidate hash level ∷ later hash (level + 1)
unfolding later
later_more hash level lt =
    let e : 9 - level ≡ suc (9 - (level + 1)) = omega arith in
    ap (λ n. map (candidate hash) (range_with_len level n)) e

pub later_none : (hash level : ℕ) → 9 ≤ level → later hash level ≡ []
unfolding later
later_none hash level ge = let e : 9 - level ≡ 0 = omega arith in ap (λ n. map (candidate hash) (range_with_len level n)) e

-- few buckets, so that each is a leaf
pub few_buckets : (level k : ℕ) → level + k ≡ 9 → first_bucket level ≤ 19173961
few_buckets level zero e = subst (λ n. first_bucket n ≤ 19173961) (let s : 9 ≡ level = omega arith in s) (omega arith)
few_buckets level (suc k) e =
    let more = few_buckets (suc level) k (omega arith) in
    omega arith

-- The first of them that has something

module _ {A : Type 0} (has : ℕ → Option A) (hash level : ℕ) where
  pub first_here : (x : A) → level < 9 → has (candidate hash level) ≡ Some x → first_some has (later hash level) ≡ Some x
  first_here x lt e = ap (first_some has) (later_more hash level lt) ∙ ap (λ o. option_or o (first_some has (later hash (level + 1)))) e

  pub first_later : level < 9 → has (candidate hash level) ≡ None → first_some has (later hash level) ≡ first_some has (later hash (level + 1))
  first_later lt e = ap (first_some has) (later_more hash level lt) ∙ ap (λ o. option_or o (first_some has (later hash (level + 1)))) e

  pub first_none : 9 ≤ level → first_some has (later hash level) ≡ None
  first_none ge = ap (first_some has) (later_none hash level ge)

  -- behind what was found before
  pub first_more : (found : Option A) → level < 9 → option_or found (first_some has (later hash level)) ≡ option_or (option_or found (has (candidate hash level))) (first_some has (later hash (level + 1)))
  first_more (Some x) lt = refl
  first_more None lt = ap (first_some has) (later_more hash level lt)

  pub no_more : (found : Option A) → 9 ≤ level → option_or found (first_some has (later hash level)) ≡ found
  no_more (Some x) ge = refl
  no_more None ge = first_none ge

module _ (test : ℕ → Bool) (hash level : ℕ) where
  pub any_more : level < 9 → list_any test (later hash level) ≡ (test (candidate hash level) || list_any test (later hash (level + 1)))
  any_more lt = ap (list_any test) (later_more hash level lt)

  pub any_none : 9 ≤ level → list_any test (later hash level) ≡ false
  any_none ge = ap (list_any test) (later_none hash level ge)
