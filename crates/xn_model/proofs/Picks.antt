-- Picked and begun one after another, blocks are the first ready ones.
use Rattle.std.proofs.Common.{◌≡◌, ℕ, zero, suc, ◌+◌, ◌-◌, ◌<◌, ◌≤◌, Bool, true, false, cond, List, [], ◌∷◌, length, Some, None, refl, sym, ◌∙◌, ap, inl, inr, arith, subst}
use Rattle.std.specs.Prelude.{is_some, filter, Ok}
use Rattle.std.specs.List.{range_with_len}
use Rattle.std.proofs.lemmas.Bool.{cases_lt, cond-true, cond-false, false_from_ne_true, false≢true}
use Rattle.std.proofs.lemmas.Option.{unwrap_or-slice_get}
use Rattle.std.proofs.lemmas.List.Quantifiers.{position-Some}
use Rattle.xn_model.specs.Lives.{Lives, StoreState, life_at}
use Rattle.xn_model.specs.Calls.{begun_of, is_ready, pick_of}
use Rattle.xn_model.specs.Waves.{can_begin, ready_blocks}
use Rattle.xn_model.proofs.Least.{picked}
use Rattle.xn_model.proofs.Drains.{ready_life}
use Rattle.xn_model.proofs.WaveCalls.{begun_not_ready, begun_ready_apart, begun_length}

-- Numbers of a range that pass a test

none_pass : (f : ℕ → Bool) (a n : ℕ) → ((c : ℕ) → f c ≡ false) → filter f (range_with_len a n) ≡ []
none_pass f a zero h = refl
none_pass f a (suc n) h = cond-false (f a) (a ∷ filter f (range_with_len (a + 1) n)) (filter f (range_with_len (a + 1) n)) (h a) ∙ none_pass f (a + 1) n h

-- those before m do not
skip : (f : ℕ → Bool) (a m k : ℕ) → ((c : ℕ) → c < a + m → f c ≡ false) → filter f (range_with_len a (m + k)) ≡ filter f (range_with_len (a + m) k)
skip f a zero k h = λ i. filter f (range_with_len (is i) (isk i))
  where
    is : a ≡ a + zero
    is = omega arith

    isk : zero + k ≡ k
    isk = omega arith
skip f a (suc m) k h =
    ap (λ n. filter f (range_with_len a n)) more
    ∙ (cond-false (f a) (a ∷ filter f (range_with_len (a + 1) (m + k))) (filter f (range_with_len (a + 1) (m + k))) (h a (omega arith))
    ∙ (skip f (a + 1) m k (λ c lt. h c (omega arith))
    ∙ ap (λ n. filter f (range_with_len n k)) (omega arith)))
  where
    more : suc m + k ≡ suc (m + k)
    more = omega arith

same_pass : (f g : ℕ → Bool) (a n : ℕ) → ((c : ℕ) → a ≤ c → f c ≡ g c) → filter f (range_with_len a n) ≡ filter g (range_with_len a n)
same_pass f g a zero h = refl
same_pass f g a (suc n) h = λ i. cond (h a (omega arith) i) (a ∷ same_pass f g (a + 1) n (λ c le. h c (omega arith)) i) (same_pass f g (a + 1) n (λ c le. h c (omega arith)) i)

-- Picks

module _ (state : StoreState) (b : ℕ) (picks : pick_of state ≡ Some b) where
  abbrev lives : Lives
  lives = state.lives

  at_pick : (b < length lives) × (can_begin lives b ≡ true) × ((c : ℕ) → c < b → can_begin lives c ≡ false)
  at_pick =
      let r = position-Some (is_ready lives) lives b None picks in
      (r.0, ap (is_ready lives) (unwrap_or-slice_get lives b None) ∙ r.1, λ c lt. ap (is_ready lives) (unwrap_or-slice_get lives c None) ∙ r.2 c lt)

  abbrev others : ℕ
  others = length lives - suc b

  abbrev rest : List ℕ
  rest = filter (can_begin lives) (range_with_len (suc b) others)

  count : length lives ≡ b + suc others
  count = let lt = at_pick.0 in omega arith

  pub ready_is : ready_blocks lives ≡ b ∷ rest
  ready_is =
      ap (λ n. filter (can_begin lives) (range_with_len 0 n)) count
      ∙ (skip (can_begin lives) 0 b (suc others) (λ c lt. at_pick.2 c (omega arith))
      ∙ (ap (λ a. filter (can_begin lives) (range_with_len a (suc others))) zero_b
      ∙ (cond-true (can_begin lives b) (b ∷ filter (can_begin lives) (range_with_len (b + 1) others)) (filter (can_begin lives) (range_with_len (b + 1) others)) at_pick.1
      ∙ ap (λ a. b ∷ filter (can_begin lives) (range_with_len a others)) one_b)))
    where
      zero_b : 0 + b ≡ b
      zero_b = omega arith

      one_b : b + 1 ≡ suc b
      one_b = omega arith

  pub ready_then : (new : StoreState) (begun : List ℕ × ℕ) → begun_of state b ≡ Ok (begun, new) → ready_blocks new.lives ≡ rest
  ready_then new begun begins =
      let none : (c : ℕ) → c < suc b → can_begin new.lives c ≡ false = λ c lt. elim (cases_lt c b) [
        | inl before ↦ begun_ready_apart state new b begun begins c (λ e. omega arith) ∙ at_pick.2 c before
        | inr at ↦ subst (λ x. can_begin new.lives x ≡ false) (let e : b ≡ c = omega arith in e) (begun_not_ready state new b begun begins)
      ] in
      let long : length new.lives ≡ suc b + others = let lt = at_pick.0 in let same = begun_length state new b begun begins in omega arith in
      let from : 0 + suc b ≡ suc b = omega arith in
      ap (λ n. filter (can_begin new.lives) (range_with_len 0 n)) long
      ∙ (skip (can_begin new.lives) 0 (suc b) others (λ c lt. none c (omega arith))
      ∙ (ap (λ a. filter (can_begin new.lives) (range_with_len a others)) from
      ∙ same_pass (can_begin new.lives) (can_begin lives) (suc b) others (λ c le. begun_ready_apart state new b begun begins c (λ e. omega arith))))

pub picks_first : (state : StoreState) (b : ℕ) → pick_of state ≡ Some b → (rest : List ℕ) × (ready_blocks state.lives ≡ b ∷ rest)
    × ((new : StoreState) (begun : List ℕ × ℕ) → begun_of state b ≡ Ok (begun, new) → ready_blocks new.lives ≡ rest)
picks_first state b picks = (rest state b picks, ready_is state b picks, ready_then state b picks)

pub picks_none : (state : StoreState) → pick_of state ≡ None → ready_blocks state.lives ≡ []
picks_none state none = none_pass (can_begin state.lives) 0 (length state.lives) (λ c. false_from_ne_true (can_begin state.lives c) (λ t.
    let r = ready_life state.lives (life_at state.lives c) t in
    false≢true (ap is_some (sym none) ∙ picked state.lives state.lives c r.0 r.1 (ap (is_ready state.lives) (sym r.1) ∙ t))))
