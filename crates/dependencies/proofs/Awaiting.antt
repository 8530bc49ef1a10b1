-- A block waits for another one exactly where some entry of it is not safe.
use Rattle.std.proofs.Common.{◌≡◌, ℕ, ◌+◌, ◌<◌, ◌≤◌, true, List, length, arith, Option, Some, None, refl, sym, ◌∙◌, ap, inl, inr, slice_get}
use Rattle.std.specs.Prelude.{is_none, is_some, nat_lt, option_map}
use Rattle.std.specs.Option.{option_and_then}
use Rattle.std.proofs.lemmas.Bool.{false≢true, lt-ltb, le-ltb}
use Rattle.std.proofs.lemmas.Option.{none-some, slice_get_cases}
use Rattle.xn_model.specs.Lives.{BlockState, Life, Lives, life_at, prefix_of}
use Rattle.xn_model.specs.Calls.{first_pending, is_tainted, life_pending}
use Rattle.block_cache.specs.Claims.{ClaimValue, claim_of}
use Rattle.block_cache.specs.Views.{pending_at}
use Rattle.dependencies.specs.Awaits.{awaited_by, awaited_in, first_unmet, unmet_at}
use Rattle.dependencies.specs.Safety.{claim_at, is_safe_at}
use Rattle.dependencies.specs.Typed.{FindsTypes}
use Rattle.dependencies.proofs.FirstUnmet.{awaited_is}
use Rattle.dependencies.proofs.Prefixes.{rest_safe, safe_stop}
use Rattle.dependencies.proofs.Types.{safe_if_met}

there : {X Y : Type 0} (f : X → Y) (xs : List X) (k : ℕ) → is_some (option_map f (slice_get xs k)) ≡ nat_lt k (length xs)
there f xs k = elim (slice_get_cases xs k).1 [
  | inl h ↦ ap (λ o. is_some (option_map f o)) h.2 ∙ sym (lt-ltb k (length xs) h.1)
  | inr h ↦ ap (λ o. is_some (option_map f o)) h.1 ∙ sym (le-ltb k (length xs) h.0)
]

pub waits : (lives : Lives) (o : Option Life) → is_some (awaited_in lives o) ≡ is_tainted lives o
waits lives None = refl
waits lives (Some l) = there _ l.pending (prefix_of lives (Some l))

-- The first entry that is not safe

-- whether an entry is safe by what is unmet of it
at_place : (lives : Lives) (b k : ℕ) → FindsTypes lives → k < life_pending (life_at lives b) → is_none (unmet_at lives b k) ≡ is_safe_at lives (life_at lives b) k
at_place lives b k finds within = by (claim_at (life_at lives b) k) refl
  where
    by : (o : Option ClaimValue) → claim_at (life_at lives b) k ≡ o → is_none (option_and_then (first_unmet lives b k) o) ≡ is_safe_at lives (life_at lives b) k
    by None none = absurd (false≢true (sym (ap (λ o. is_some o) none) ∙ some (life_at lives b) within))
      where
        some : (o : Option Life) → k < life_pending o → is_some (claim_at o k) ≡ true
        some None within = absurd (omega (arith, within))
        some (Some l) within = there claim_of l.pending k ∙ lt-ltb k (length l.pending) within
    by (Some claim) some = safe_if_met lives b k claim finds (sym some)

pub safe_here : (lives : Lives) (b k : ℕ) → FindsTypes lives → k < life_pending (life_at lives b) → None ≡ unmet_at lives b k → is_safe_at lives (life_at lives b) k ≡ true
safe_here lives b k finds within none = sym (at_place lives b k finds within) ∙ ap (λ o. is_none o) (sym none)

pub awaited_there : (lives : Lives) (b k x : ℕ) → FindsTypes lives → k < life_pending (life_at lives b) → prefix_of lives (life_at lives b) ≡ k + rest_safe lives k (life_at lives b) →
    unmet_at lives b k ≡ Some x → Some x ≡ awaited_in lives (life_at lives b)
awaited_there lives b k x finds within prefix some =
    let o = life_at lives b in
    let unsafe = sym (at_place lives b k finds within) ∙ ap (λ o. is_none o) some in
    let stop = safe_stop lives o k within unsafe in
    let here : k ≡ prefix_of lives o = omega (arith, stop, prefix) in
    by (slice_get (pending_at o) k) some
    ∙ ap (λ j. option_map (λ s. awaited_by lives (first_pending j o) (claim_of s)) (slice_get (pending_at o) j)) here
  where
    by : (s : Option BlockState) → option_and_then (first_unmet lives b k) (option_map claim_of s) ≡ Some x → Some x ≡ option_map (λ s. awaited_by lives (first_pending k (life_at lives b)) (claim_of s)) s
    by None e = absurd (none-some x e)
    by (Some s) e = ap (λ y. Some y) (sym (awaited_is lives b k x (claim_of s) e))

past : (xs : List BlockState) (k : ℕ) → length xs ≤ k → slice_get xs k ≡ None
past xs k all = elim (slice_get_cases xs k).1 [
  | inl h ↦ absurd (omega (arith, all, h.1))
  | inr h ↦ h.1
]

pub none_awaited : (lives : Lives) (b k : ℕ) → life_pending (life_at lives b) ≤ k → prefix_of lives (life_at lives b) ≡ k + rest_safe lives k (life_at lives b) → None ≡ awaited_in lives (life_at lives b)
none_awaited lives b k all prefix = by (life_at lives b) (omega (arith, all, prefix))
  where
    by : (o : Option Life) → life_pending o ≤ prefix_of lives o → None ≡ awaited_in lives o
    by None all = refl
    by (Some l) all = sym (ap (λ (o : Option BlockState). option_map (λ s. awaited_by lives (first_pending (prefix_of lives (Some l)) (Some l)) (claim_of s)) o) (past l.pending (prefix_of lives (Some l)) all))
