-- Each call keeps lanes and lives fitting.
use Rattle.std.proofs.Common.{◌≡◌, ℕ, zero, suc, ◌≤◌, ◌<◌, Bool, true, false, cond, List, [], ◌∷◌, length, take, Option, Some, None, refl, sym, ◌∙◌, ap, inl, inr, arith, subst, length-take}
use Rattle.std.specs.Prelude.{Contains, option_map, slice_set, IfSome, is_some}
use Rattle.std.specs.List.{last_or}
use Rattle.std.proofs.lemmas.Bool.{cases_eq, false≢true}
use Rattle.std.proofs.lemmas.List.{length-set}
use Rattle.std.proofs.lemmas.Option.{none-some}
use Rattle.xn_model.specs.Lists.{has_number}
use Rattle.xn_model.specs.Types.{Types}
use Rattle.xn_model.specs.Lives.{BlockState, Life, Lives, StoreState, life_at, bytes_of, carried, first_states, begun_at, settle, settled_at, freed, accepted_at, drops_of, durable_after}
use Rattle.xn_model.specs.Rules.{IsConsistent, IsCount}
use Rattle.xn_model.specs.Lanes.{FitsLife, FitLives}
use Rattle.xn_model.proofs.Reached.{idle_at_rest}
use Rattle.xn_model.proofs.Changes.{accepted}
use Rattle.xn_model.proofs.Lists.{has_number_at, Contains-none}
use Rattle.xn_model.proofs.Lives.{of_life, accepted_is, length_accepted, each_at, set_other, set_same, change_same, freed_at, length_freed, length_change}
use Rattle.xn_model.proofs.Ends.{Settles, drops_at}

module _ {L : Type 0} (read : L → List ℕ) where
  zip_to : (lanes : List (Option L)) (xs ys : Lives) → length ys ≡ length xs → ((c : ℕ) (x : Option L) → c < length xs → FitsLife read x (life_at xs c) → FitsLife read x (life_at ys c)) → FitLives read lanes xs → FitLives read lanes ys
  zip_to [] [] [] e h z = z
  zip_to [] [] (y ∷ ys) e h z = absurd (omega arith)
  zip_to [] (x ∷ xs) ys e h z = absurd z
  zip_to (a ∷ lanes) [] ys e h z = absurd z
  zip_to (a ∷ lanes) (x ∷ xs) [] e h z = absurd (omega arith)
  zip_to (a ∷ lanes) (x ∷ xs) (y ∷ ys) e h z = (h 0 a (omega arith) z.0, zip_to lanes xs ys (omega arith) (λ c o lt. h (suc c) o (omega arith)) z.1)

  -- with one lane changed
  zip_set : (lanes : List (Option L)) (xs ys : Lives) (b : ℕ) (v : Option L) → length ys ≡ length xs → ((c : ℕ) (x : Option L) → (c ≡ b → ⊥) → FitsLife read x (life_at xs c) → FitsLife read x (life_at ys c)) → FitsLife read v (life_at ys b) →
      FitLives read lanes xs → FitLives read (slice_set lanes b v) ys
  zip_set [] [] [] b v e h f z = z
  zip_set [] [] (y ∷ ys) b v e h f z = absurd (omega arith)
  zip_set [] (x ∷ xs) ys b v e h f z = absurd z
  zip_set (a ∷ lanes) [] ys b v e h f z = absurd z
  zip_set (a ∷ lanes) (x ∷ xs) [] b v e h f z = absurd (omega arith)
  zip_set (a ∷ lanes) (x ∷ xs) (y ∷ ys) zero v e h f z = (f, zip_to lanes xs ys (omega arith) (λ c o lt. h (suc c) o (λ same. absurd (omega arith))) z.1)
  zip_set (a ∷ lanes) (x ∷ xs) (y ∷ ys) (suc b) v e h f z = (h 0 a (λ same. absurd (omega arith)) z.0, zip_set lanes xs ys b v (omega arith) (λ c o ne. h (suc c) o (λ same. ne (omega arith))) f z.1)

  -- A state more

  fits_accepted : (b : ℕ) (s : BlockState) (c : ℕ) (x : Option L) (o : Option Life) → FitsLife read x o → FitsLife read x (option_map (accepted b s c) o)
  fits_accepted b s c None None h = h
  fits_accepted b s c None (Some l) h = h
  fits_accepted b s c (Some a) None h = h
  fits_accepted b s c (Some a) (Some l) h = h

  pub fit_accepted : (lanes : List (Option L)) (lives : Lives) (b : ℕ) (s : BlockState) → FitLives read lanes lives → FitLives read lanes (accepted_at lives b s)
  fit_accepted lanes lives b s z = zip_to lanes lives (accepted_at lives b s) (length_accepted lives b s)
      (λ c x lt h. subst (FitsLife read x) (sym (ap (λ xs. life_at xs c) (accepted_is lives b s) ∙ each_at (accepted b s) lives c)) (fits_accepted b s c x (life_at lives c) h)) z

  -- A life more, without a write

  fits_new : (x : Option L) (o : Option Life) (l : Life) → o ≡ None → l.begun ≡ None → l.durable ≡ None → FitsLife read x o → FitsLife read x (Some l)
  fits_new x (Some m) l e i d h = absurd (none-some m (sym e))
  fits_new None None l e i d h = absurd h
  fits_new (Some a) None l e i d h = (i, subst (λ o. IfSome o (λ s. read a ≡ s.bytes)) (sym d) tt)

  pub fit_new : (lanes : List (Option L)) (lives : Lives) (b : ℕ) (l : Life) → b < length lives → life_at lives b ≡ None → l.begun ≡ None → l.durable ≡ None → FitLives read lanes lives → FitLives read lanes (slice_set lives b (Some l))
  fit_new lanes lives b l within none i d z = zip_to lanes lives (slice_set lives b (Some l)) (length-set lives b (Some l))
      (λ c x lt h. elim (cases_eq c b) [
        | inl same ↦ subst (FitsLife read x) (sym (ap (life_at (slice_set lives b (Some l))) same ∙ set_same lives b (Some l) within))
            (fits_new x (life_at lives c) l (ap (life_at lives) same ∙ none) i d h)
        | inr other ↦ subst (FitsLife read x) (sym (set_other lives b c (Some l) other)) h
      ]) z

  -- Lives fewer, none of them with a write

  fits_freed : (t : Bool) (x : Option L) (o : Option Life) → (t ≡ true → (l : Life) → o ≡ Some l → l.begun ≡ None) → FitsLife read x o → FitsLife read x (cond t None o)
  fits_freed false x o idle h = h
  fits_freed true (Some a) o idle h = tt
  fits_freed true None None idle h = h
  fits_freed true None (Some l) idle h = let no : is_some l.begun ≡ false = ap is_some (idle refl l refl) in absurd (false≢true (sym no ∙ h))

  pub fit_freed : (lanes : List (Option L)) (lives : Lives) (blocks : List ℕ) → ((c : ℕ) (l : Life) → Contains blocks c → life_at lives c ≡ Some l → l.begun ≡ None) → FitLives read lanes lives → FitLives read lanes (freed lives blocks)
  fit_freed lanes lives blocks idle z = zip_to lanes lives (freed lives blocks) (length_freed lives blocks)
      (λ c x lt h. subst (FitsLife read x) (sym (freed_at lives blocks c)) (fits_freed (has_number blocks c) x (life_at lives c) (λ t l e. idle c l (has_number_at blocks c t) e) h)) z

  -- A write begins: its lane leaves

  -- A write settles: its lane is back

  holds_last : (bytes : List ℕ) (o : Option BlockState) (xs : List BlockState) → 1 ≤ length xs → bytes ≡ bytes_of (last_or None xs) → IfSome (durable_after (last_or o xs)) (λ s. bytes ≡ s.bytes)
  holds_last bytes o [] some e = absurd (omega arith)
  holds_last bytes o (x ∷ xs) some e = go (last_or (Some x) xs) e
    where
      go : (p : Option BlockState) → bytes ≡ bytes_of p → IfSome (durable_after p) (λ s. bytes ≡ s.bytes)
      go None e = tt
      go (Some t) e = e

  holds_durable : (bytes : List ℕ) (o : Option BlockState) → ((s : BlockState) → o ≡ Some s → bytes ≡ s.bytes) → IfSome (durable_after o) (λ s. bytes ≡ s.bytes)
  holds_durable bytes None h = tt
  holds_durable bytes (Some s) h = h s refl

  back_freed : (t : Bool) (lane : L) (l : Life) → FitsLife read (Some lane) (Some l) → FitsLife read (Some lane) (cond t None (Some l))
  back_freed true lane l h = tt
  back_freed false lane l h = h

  pub fit_begun : (lanes : List (Option L)) (lives : Lives) (b k : ℕ) (l : Life) → life_at lives b ≡ Some l → FitLives read lanes lives → FitLives read (slice_set lanes b None) (begun_at lives b k)
  fit_begun lanes lives b k l alive z =
      let f : Life → Life = λ m. record m { begun = Some k } in
      zip_set lanes lives (begun_at lives b k) b None (length_change lives b f)
      (λ c x ne h. subst (FitsLife read x) (sym (set_other lives b c (option_map f (life_at lives b)) ne)) h)
      (subst (FitsLife read None) (sym (change_same lives b f ∙ ap (option_map f) alive)) refl) z

  module _ (T : Types) (state : StoreState) (h : IsConsistent T state) (b k : ℕ) (lane : L) (s : Settles state.lives b (read lane) k) where
    abbrev pub ended : List ℕ
    ended = drops_of (take k s.life.pending)

    -- what a write drops has no write begun
    pub ended_idle : (c : ℕ) (l : Life) → Contains ended c → life_at state.lives c ≡ Some l → l.begun ≡ None
    ended_idle c l i e = elim s.case [
      | inl landed ↦
          let d = drops_at (take k s.life.pending) c i in
          let in' : Contains (carried s.life) d.0 = subst (λ o. Contains (first_states o s.life.pending) d.0) (sym landed.0) d.1 in
          let rest = (h.linked b s.life s.alive).resting d.0 c in' d.2 in
          idle_at_rest l.begun (length l.pending) (ap length (of_life rest l e)) (h.linked c l e).flight
      | inr none ↦ absurd (Contains-none c (subst (λ n. Contains (drops_of (take n s.life.pending)) c) none.0 i))
    ]

    back_durable : IfSome (durable_after (last_or s.life.durable (take k s.life.pending))) (λ x. read lane ≡ x.bytes)
    back_durable = elim s.case [
      | inl landed ↦
          let flight : IsCount (Some k) (length s.life.pending) = subst (λ o. IsCount o (length s.life.pending)) landed.0 (h.linked b s.life s.alive).flight in
          let lo = flight.0 in let hi = flight.1 in
          holds_last (read lane) s.life.durable (take k s.life.pending) (rw length-take (omega arith)) landed.1
      | inr none ↦ subst (λ n. IfSome (durable_after (last_or s.life.durable (take n s.life.pending))) (λ x. read lane ≡ x.bytes)) (sym none.0) (holds_durable (read lane) s.life.durable none.1)
    ]

    pub fit_settled : (lanes : List (Option L)) → FitLives read lanes state.lives → FitLives read (slice_set lanes b (Some lane)) (freed (settled_at state.lives b k) ended)
    fit_settled lanes z = zip_set lanes state.lives (freed (settled_at state.lives b k) ended) b (Some lane) (length_freed (settled_at state.lives b k) ended ∙ length_change state.lives b (settle k))
        (λ c x ne f. subst (FitsLife read x) (sym (freed_at (settled_at state.lives b k) ended c ∙ ap (cond (has_number ended c) None) (set_other state.lives b c (option_map (settle k) (life_at state.lives b)) ne)))
        (fits_freed (has_number ended c) x (life_at state.lives c) (λ t l e. ended_idle c l (has_number_at ended c t) e) f))
        (subst (FitsLife read (Some lane)) (sym (freed_at (settled_at state.lives b k) ended b ∙ ap (cond (has_number ended b) None) (change_same state.lives b (settle k) ∙ ap (option_map (settle k)) s.alive)))
        (back_freed (has_number ended b) lane (settle k s.life) (refl, back_durable))) z
