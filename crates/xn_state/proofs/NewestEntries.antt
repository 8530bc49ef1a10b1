-- The newest entry of a block is the one at its last place.
use Rattle.std.proofs.Common.{◌≡◌, ◌∙◌, ℕ, ◌-◌, List, [], ◌∷◌, Option, None, Some, length, slice_get, option_map, refl, ap, sym, arith}
use Rattle.std.proofs.lemmas.Option.{none-some}
use Rattle.std.specs.List.{last_or}
use Rattle.xn_model.specs.Lives.{BlockState, Life}
use Rattle.xn_model.specs.Calls.{life_pending}
use Rattle.xn_model.specs.PendingIn.{newest_entry}
use Rattle.block_cache.specs.Claims.{ClaimValue, claim_of}
use Rattle.block_cache.specs.Views.{pending_at}

last_stands : (o : Option BlockState) (s : BlockState) (xs : List BlockState) → slice_get (s ∷ xs) (length xs) ≡ last_or o (s ∷ xs)
last_stands o s [] = refl
last_stands o s (t ∷ xs) = last_stands (Some s) t xs

entry_of_claim : (o : Option BlockState) → option_map (λ (c : ClaimValue). c.entry) (option_map claim_of o) ≡ option_map (λ s. s.entry) o
entry_of_claim None = refl
entry_of_claim (Some s) = refl

newest_of : (xs : List BlockState) (count : ℕ) (claim : ClaimValue) → count ≡ length xs → Some claim ≡ option_map claim_of (slice_get xs (count - 1)) →
    Some claim.entry ≡ option_map (λ s. s.entry) (last_or None xs)
newest_of [] count claim all there = absurd (none-some claim (sym there))
newest_of (s ∷ xs) count claim all there =
    let last : count - 1 ≡ length xs = omega arith in
    ap (option_map (λ (c : ClaimValue). c.entry)) there
    ∙ entry_of_claim (slice_get (s ∷ xs) (count - 1))
    ∙ ap (λ k. option_map (λ s. s.entry) (slice_get (s ∷ xs) k)) last
    ∙ ap (option_map (λ s. s.entry)) (last_stands None s xs)

pub newest_claimed : (o : Option Life) (count : ℕ) (claim : ClaimValue) → count ≡ life_pending o →
    Some claim ≡ option_map claim_of (slice_get (pending_at o) (count - 1)) → Some claim.entry ≡ newest_entry o
newest_claimed None count claim all there = absurd (none-some claim (sym there))
newest_claimed (Some l) count claim all there = newest_of l.pending count claim all there
