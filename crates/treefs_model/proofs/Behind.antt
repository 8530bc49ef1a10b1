-- A cut that takes the newest pending state of a block has all of it.
use Rattle.std.proofs.Common.{◌≡◌, ℕ, zero, suc, ◌<◌, ◌≤◌, List, [], ◌∷◌, ◌++◌, length, take, Option, Some, None, refl, sym, ◌∙◌, ap, inl, inr, arith, subst}
use Rattle.std.specs.Prelude.{Contains, option_to_list, option_map}
use Rattle.std.specs.List.{last_or}
use Rattle.std.proofs.lemmas.Option.{same_Some, none-some}
use Rattle.xn_model.specs.Types.{Types}
use Rattle.xn_model.specs.Lives.{BlockState, Life, StoreState, life_at}
use Rattle.xn_model.specs.Rules.{IsConsistent, Rises}
use Rattle.xn_model.proofs.ForCallers.{Contains-cons, Contains-none, last_of}
use Rattle.ffs_model.specs.Cuts.{Choice, IsFullAt, TakesAny}
use Rattle.xn_model.specs.PendingIn.{newest_entry}
use Rattle.treefs_model.specs.Acts.{behind_of}
use Rattle.treefs_model.specs.Edited.{FullBehind}

rises_tail : (x : BlockState) (xs : List BlockState) → Rises (x ∷ xs) → Rises xs
rises_tail x [] h = tt
rises_tail x (y ∷ xs) h = h.1

pending_rises : (o : Option BlockState) (xs : List BlockState) → Rises (option_to_list o ++ xs) → Rises xs
pending_rises None xs h = h
pending_rises (Some s) xs h = rises_tail s xs h

last_higher : (x y : BlockState) (xs : List BlockState) (t : BlockState) → Rises (x ∷ y ∷ xs) → last_or None (y ∷ xs) ≡ Some t → x.entry < t.entry
last_higher x y [] t h e = let same : y.entry ≡ t.entry = ap (λ (s : BlockState). s.entry) (same_Some y t e) in let lt = h.0 in omega arith
last_higher x y (z ∷ xs) t h e = let lt = h.0 in let more = last_higher y z xs t h.1 e in omega arith

last_taken : (n : ℕ) (xs : List BlockState) (t : BlockState) → Rises xs → last_or None xs ≡ Some t → Contains (take n xs) t → length xs ≤ n
last_taken n [] t h e i = omega arith
last_taken zero (x ∷ xs) t h e i = absurd (Contains-none t i)
last_taken (suc n) (x ∷ []) t h e i = omega arith
last_taken (suc n) (x ∷ y ∷ xs) t h e i = elim (Contains-cons x (take n (y ∷ xs)) t i) [
  | inl same ↦ let lt = last_higher x y xs t h e in let at : x.entry ≡ t.entry = ap (λ (s : BlockState). s.entry) same in absurd (omega arith)
  | inr j ↦ let le = last_taken n (y ∷ xs) t h.1 e j in omega arith
]

module _ (T : Types) (state : StoreState) (h : IsConsistent T state) (k : Choice) where
  full_at : (y : ℕ) (o : Option Life) → life_at state.lives y ≡ o → TakesAny state.lives k (newest_entry o) → IsFullAt state.lives k y
  full_at y None e t m f = absurd (none-some m (sym e ∙ f))
  full_at y (Some l) e t m f = subst (λ (x : Life). length x.pending ≤ k y) (same_Some l m (sym e ∙ f)) (go (last_or None l.pending) refl t)
    where
      go : (o : Option BlockState) → last_or None l.pending ≡ o → TakesAny state.lives k (option_map (λ (s : BlockState). s.entry) o) → length l.pending ≤ k y
      go None at t = empty l.pending at
        where
          empty : (xs : List BlockState) → last_or None xs ≡ None → length xs ≤ k y
          empty [] at = omega arith
          empty (x ∷ xs) at = absurd (some_last x xs at)
            where
              some_last : (x : BlockState) (xs : List BlockState) → last_or (Some x) xs ≡ None → ⊥
              some_last x [] at = none-some x (sym at)
              some_last x (z ∷ xs) at = some_last z xs at
      go (Some s) at t = last_taken (k y) l.pending s (pending_rises l.durable l.pending (h.lives_sound.each y l e).rising) at (t y l s e (last_of None l.pending s at) refl)

  pub full_behind : (y : Option ℕ) → TakesAny state.lives k (behind_of state y) → FullBehind state.lives k y
  full_behind None t = tt
  full_behind (Some y) t = full_at y (life_at state.lives y) refl t
