-- A new block was begun, and forgotten: the store is as it was before, but for the number that the block got.
use Rattle.std.proofs.Common.{◌≡◌, ℕ, zero, suc, ◌+◌, ◌<◌, ◌≤◌, List, [], ◌∷◌, length, Option, None, Some, Result, Ok, Err, refl, sym, ◌∙◌, ap, eq-eqb, inl, inr, arith, subst, false, MatchResult, ◌||◌, is_some, nat_lt, not, slice_set}
use Rattle.ffs_lib.proofs.Common.{BadType, ClaimWrong, Exhausted, FfsFault, InFlight, Life, Lives, NotEmpty, NotFresh, NotInUse, NotYours, Refusal, SizeWrong}
use Rattle.ffs_lib.proofs.Common.{StoreState, TooManyPending, Types, current, exhausted, forget_at, forget_of, init_at, init_of, is_dropped, is_for, is_fresh}
use Rattle.ffs_lib.proofs.Common.{is_untouched, latest, life_at, lowest_free, new_life, own_life, own_place, owns_nothing, propose_of, result_and_then, too_many}
use Rattle.ffs_lib.proofs.Common.{within_size}
use Rattle.xn_model.proofs.ForCallers.{place_from, set_same, unless_ok, unless_passed}
use Rattle.ffs_model.proofs.ForCallers.{begun_next, started}
use Rattle.ffs_lib.specs.Orders.{Action, Attaches, Makes}
use Rattle.ffs_lib.specs.Results.{SameInode}
use Rattle.ffs_lib.specs.Steps.{StopsAttaching, Tells, Wants, left_by, skipped}
use Rattle.ffs_lib.specs.WriteOrder.{TellsAct}
use Rattle.ffs_lib.proofs.Counted.{numbers_of}

set_back : (lives : Lives) (b : ℕ) (o : Option Life) → life_at lives b ≡ None → slice_set (slice_set lives b o) b None ≡ lives
set_back [] b o e = refl
set_back (x ∷ os) zero o e = ap (λ (y : Option Life). y ∷ os) (sym e)
set_back (x ∷ os) (suc b) o e = ap (λ (ys : Lives). x ∷ ys) (set_back os b o e)

module _ (T : Types) (zeroth first : StoreState) (fs ty : ℕ) (bytes : List ℕ) (block number : ℕ) (done : init_of T zeroth fs ty bytes ≡ Ok ((block, number), first)) where
  abbrev start : Life
  start = new_life zeroth.next (Some fs) ty bytes

  owns_none : not (owns_nothing T ty bytes) ≡ false
  owns_none =
      let u = unless_ok (
      (nat_lt ty 2 || not (T.installed ty), BadType)
      ∷ (too_many zeroth fs 0, TooManyPending)
      ∷ (exhausted zeroth, Exhausted)
      ∷ (not (within_size T ty bytes), SizeWrong)
      ∷ (not (owns_nothing T ty bytes), ClaimWrong)
      ∷ []) (init_at zeroth fs ty bytes (lowest_free zeroth.lives)) ((block, number), first) done in
      u.0.1.1.1.1.0

  pub forgotten_is : left_by (forget_of T first fs block) first ≡ skipped zeroth
  forgotten_is =
      let r = started T zeroth first fs ty bytes (block, number) done in
      let at = place_from first.lives block start (ap (λ (xs : Lives). life_at xs block) r.lives ∙ set_same zeroth.lives block (Some start) r.within) in
      let own : own_life first fs block ≡ Ok start =
      ap (own_place fs) at ∙ unless_passed ((is_dropped start.status, NotInUse) ∷ (not (is_for fs start.fs), NotYours) ∷ []) (Ok start) (refl, (ap not (eq-eqb fs fs refl), tt)) in
      let gone : StoreState = record first { lives = slice_set first.lives block None } in
      let forgets : forget_at T first block start ≡ Ok (tt, gone) = unless_passed (
      (not (is_fresh start.status), NotFresh)
      ∷ (not (owns_nothing T start.ty (current start)), NotEmpty)
      ∷ (not (is_untouched start), TooManyPending)
      ∷ (is_some start.begun, InFlight)
      ∷ []) (Ok (tt, gone)) (refl, (owns_none, (refl, (refl, tt)))) in
      let to : Lives → ℕ → StoreState = λ xs k. record { lives = xs; next = k } in
      ap (λ (x : Result (Unit {0} × StoreState) Refusal). left_by x first) (ap (result_and_then (forget_at T first block)) own ∙ forgets)
      ∙ (ap (λ (xs : Lives). to xs first.next) (ap (λ (xs : Lives). slice_set xs block None) r.lives ∙ set_back zeroth.lives block (Some start) r.free)
      ∙ ap (to zeroth.lives) (begun_next T zeroth first fs ty bytes (block, number) done))

  pub undone_same : (new : StoreState) → new ≡ left_by (forget_of T first fs block) first → (d : ℕ) → SameInode (latest zeroth.lives) (latest new.lives) fs d
  undone_same new left d =
      subst (λ (m : StoreState). SameInode (latest zeroth.lives) (latest m.lives) fs d) (sym (left ∙ forgotten_is)) (refl, λ inode is. (refl, λ at low. refl), λ some few. refl)

-- A refused action leaves the lives, and fewer numbers than it takes are given.
pub record Untouched (old new : StoreState) (count : ℕ) : Type 0 where
  pub lives : new.lives ≡ old.lives
  pub later : old.next ≤ new.next
  pub fewer : new.next < old.next + count

pub told_lives : (T : Types) (fs : ℕ) (action : Action) (old new : StoreState) (fault : FfsFault) → TellsAct T fs action old new fault → Untouched old new (numbers_of action)
told_lives T fs action old new fault told = go action told
  where
    by : (count k : ℕ) → old.next ≤ k → k < old.next + count → new ≡ record old { next = k } → Untouched old new count
    by count k low high e = let next = ap (λ (s : StoreState). s.next) e in record { lives = ap (λ (s : StoreState). s.lives) e; later = omega (arith, next, low); fewer = omega (arith, next, high) }

    begun : {A : Type 0} (P : A → Type 0) (r : Result A Refusal) → MatchResult r (λ x. (new ≡ skipped old) × P x) (λ refusal. ⊥) → Untouched old new 2
    begun P (Ok x) y = by 2 (old.next + 1) (omega arith) (omega arith) y.0
    begun P (Err refusal) y = absurd y

    go : (a : Action) → TellsAct T fs a old new fault → Untouched old new (numbers_of a)
    go (Makes []) x = absurd x
    go (Makes (edit ∷ rest)) x = by (length (edit ∷ rest)) old.next (omega arith) (omega arith) x.0
    go (Attaches ty bytes home edit) x = elim x [
      | inl y ↦ by 2 old.next (omega arith) (omega arith) y.0
      | inr y ↦ begun (λ x. Tells (propose_of T x.1 fs home (edit x.0.0)) fault) (init_of T old fs ty bytes) y
    ]

-- one of its two results, where a call has it
pub at_ok : {A E : Type 0} (r : Result A E) (x : A) (P : A → Type 0) → Ok x ≡ r → P x → MatchResult r P (λ other. ⊥)
at_ok r x P e p = subst (λ y. MatchResult y P (λ other. ⊥)) e p

pub attach_undone : (T : Types) (fs : ℕ) (zeroth first new : StoreState) (ty : ℕ) (bytes : List ℕ) (block number home : ℕ) → init_of T zeroth fs ty bytes ≡ Ok ((block, number), first) → new ≡ left_by (forget_of T first fs block) first → (fault : FfsFault) →
    Wants T first fs home fault → StopsAttaching T fs zeroth new ty bytes home fault
attach_undone T fs zeroth first new ty bytes block number home done left fault wants =
    inr (at_ok (init_of T zeroth fs ty bytes) ((block, number), first) (λ made. (new ≡ skipped zeroth) × Wants T made.1 fs home fault) (sym done) (left ∙ forgotten_is T zeroth first fs ty bytes block number done, wants))
