-- How many entries are safe.
use Rattle.std.proofs.Common.{◌≡◌, ℕ, suc, ◌+◌, ◌<◌, ◌≤◌, Bool, true, false, cond, List, [], ◌∷◌, length, take, drop, get_or, map, Option, Some, None, refl, sym, ◌∙◌, ap, arith}
use Rattle.std.specs.Prelude.{◌&&◌, ◌==◌, not, is_some, is_none, option_map}
use Rattle.std.specs.List.{list_all}
use Rattle.std.proofs.Math.Seq.{drop-cons}
use Rattle.std.proofs.lemmas.Bool.{ne_eqb}
use Rattle.std.proofs.lemmas.List.{take_more, drop_all}
use Rattle.std.proofs.lemmas.Option.{slice_get-get_or}
use Rattle.xn_model.specs.Lives.{BlockState, Life, Lives, has_durable, is_after_met, is_all_durable, is_type_met, no_states, on_disk, safe, safe_count}
use Rattle.xn_model.specs.Calls.{life_pending}
use Rattle.block_cache.specs.Claims.{claim_of}
use Rattle.dependencies.specs.Safety.{is_some_safe, is_safe_at}

pub list_all-map : {A B : Type 0} (test : B → Bool) (f : A → B) (xs : List A) → list_all test (map f xs) ≡ list_all (λ x. test (f x)) xs
list_all-map test f [] = refl
list_all-map test f (x ∷ xs) = ap (λ b. test (f x) && b) (list_all-map test f xs)

-- how many are safe from a place on
abbrev pub rest_safe : Lives → ℕ → Option Life → ℕ
rest_safe lives k None = 0
rest_safe lives k (Some l) = safe_count lives l.ty (take k l.pending) (drop k l.pending)

no_state : BlockState
no_state = on_disk []

at_entry : (lives : Lives) (t : ℕ) (xs : List BlockState) (k : ℕ) → k < length xs →
    safe_count lives t (take k xs) (drop k xs) ≡ cond (safe lives t (take k xs) (get_or xs k no_state)) (suc (safe_count lives t (take (k + 1) xs) (drop (k + 1) xs))) 0
at_entry lives t xs k within =
    let next : suc k ≡ k + 1 = omega arith in
    let front : drop k xs ≡ get_or xs k no_state ∷ drop (k + 1) xs = drop-cons xs k no_state within ∙ ap (λ j. get_or xs k no_state ∷ drop j xs) next in
    ap (safe_count lives t (take k xs)) front
    ∙ ap (λ ys. cond (safe lives t (take k xs) (get_or xs k no_state)) (suc (safe_count lives t ys (drop (k + 1) xs))) 0) (sym (take_more xs k no_state within))

safe_there : (lives : Lives) (l : Life) (k : ℕ) → k < length l.pending → is_safe_at lives (Some l) k ≡ safe lives l.ty (take k l.pending) (get_or l.pending k no_state)
safe_there lives l k within =
    let s = get_or l.pending k no_state in
    ap (λ o. is_some_safe lives l.ty (take k l.pending) (option_map claim_of o)) (slice_get-get_or l.pending k no_state within)
    ∙ (λ i. (sym (list_all-map (has_durable lives) (λ p. p.0) s.adds) i && sym (list_all-map (is_type_met lives l.ty (take k l.pending)) (λ p. p.1) s.adds) i)
    && (list_all (is_all_durable lives) s.drops && is_after_met lives (take k l.pending) s.after))

-- one more is safe, or the safe ones end here
pub safe_more : (lives : Lives) (o : Option Life) (k : ℕ) → k < life_pending o → is_safe_at lives o k ≡ true → rest_safe lives k o ≡ 1 + rest_safe lives (k + 1) o
safe_more lives None k within safe' = absurd (omega arith)
safe_more lives (Some l) k within safe' =
    let here = at_entry lives l.ty l.pending k within
    ∙ ap (λ b. cond b (suc (safe_count lives l.ty (take (k + 1) l.pending) (drop (k + 1) l.pending))) 0) (sym (safe_there lives l k within) ∙ safe') in
    omega (arith, here)

pub safe_stop : (lives : Lives) (o : Option Life) (k : ℕ) → k < life_pending o → is_safe_at lives o k ≡ false → rest_safe lives k o ≡ 0
safe_stop lives None k within unsafe = refl
safe_stop lives (Some l) k within unsafe =
    at_entry lives l.ty l.pending k within
    ∙ ap (λ b. cond b (suc (safe_count lives l.ty (take (k + 1) l.pending) (drop (k + 1) l.pending))) 0) (sym (safe_there lives l k within) ∙ unsafe)

pub safe_all : (lives : Lives) (o : Option Life) (k : ℕ) → life_pending o ≤ k → rest_safe lives k o ≡ 0
safe_all lives None k all = refl
safe_all lives (Some l) k all = ap (safe_count lives l.ty (take k l.pending)) (drop_all k l.pending all)

pub none_pending : (states : List BlockState) → no_states states ≡ (length states == 0)
none_pending [] = refl
none_pending (s ∷ states) = sym (ne_eqb (length (s ∷ states)) 0 (λ e. absurd (omega (arith, e))))

pub not_begun : (o : Option ℕ) → is_none o ≡ not (is_some o)
not_begun None = refl
not_begun (Some k) = refl
