-- What the first entries of a block drop.
use Rattle.std.proofs.Common.{◌≡◌, ℕ, ◌+◌, ◌<◌, Bool, true, false, List, [], ◌++◌, refl, sym, ◌∙◌, ap, Option, Some, None, slice_get}
use Rattle.std.specs.Prelude.{◌||◌, option_map, slice_set}
use Rattle.std.proofs.lemmas.List.Sums.{fold-append}
use Rattle.xn_model.specs.Calls.{first_pending, life_pending}
use Rattle.block_cache.specs.Claims.{ClaimValue, claim_of}
use Rattle.block_cache.specs.Views.{drops_in, pending_at}
use Rattle.block_cache.proofs.ForCallers.{first_more}
use Rattle.dependencies.specs.Counts.{claim_drops, given}
use Rattle.xn_model.specs.Lives.{BlockState, Life, drops_of}

pub given-append : (free : List Bool) (xs ys : List ℕ) → given free (xs ++ ys) ≡ given (given free xs) ys
given-append free xs ys = fold-append (λ ts c. slice_set ts c true) free xs ys

-- the blocks of one more entry are dropped
pub drops_more : (k : ℕ) (o : Option Life) → k < life_pending o → drops_of (first_pending (k + 1) o) ≡ drops_of (first_pending k o) ++ claim_drops (option_map claim_of (slice_get (pending_at o) k))
drops_more k o within = first_more o k within ∙ ap (λ ds. drops_of (first_pending k o) ++ ds) (claimed (slice_get (pending_at o) k))
  where
    claimed : (s : Option BlockState) → drops_in s ≡ claim_drops (option_map claim_of s)
    claimed None = refl
    claimed (Some s) = refl

-- where neither the first entries nor the next one drop a block, all these together drop none
pub none_more : (before here : Bool) (k : ℕ) (o : Option Life) (claim : Option ClaimValue) → k < life_pending o → claim ≡ option_map claim_of (slice_get (pending_at o) k) →
    (before ≡ false → drops_of (first_pending k o) ≡ []) → (here ≡ false → claim_drops claim ≡ []) → (before || here) ≡ false → drops_of (first_pending (k + 1) o) ≡ []
none_more true here k o claim within is first next e = cc
none_more false here k o claim within is first next e =
    drops_more k o within ∙ (λ i. first refl i ++ (ap claim_drops (sym is) ∙ next e) i)
