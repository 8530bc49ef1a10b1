-- Blocks that were begun and then forgotten, since no further one could be: what a file system reads is as it was.
use Rattle.std.proofs.Common.{◌≡◌, ◌≢◌, ℕ, ◌<◌, Bool, true, false, not, ◌||◌, List, [], ◌∷◌, ◌++◌, length, nat_lt, Option, None, Some, Result, Ok, Err, refl}
use Rattle.std.proofs.Common.{sym, ◌∙◌, ap, inl, inr, subst, if◌then◌else◌}
use Rattle.std.specs.Prelude.{⊤, All, slice_set, ◌==◌}
use Rattle.std.proofs.lemmas.Bool.{cases_eq, eq-eqb, ne_eqb, not-false}
use Rattle.std.proofs.lemmas.List.Elements.{All-append, All-cons, All-head, All-nil, All-tail}
use Rattle.store_types.specs.declared.refusal.Refusal.{Refusal}
use Rattle.store_types.specs.declared.refusal.Refusal.TheVariants as refusal
use Rattle.xn_model.specs.Calls.{exhausted, forget_at, forget_of, init_at, init_of, new_life, own_place, owns_nothing, started, too_many}
use Rattle.xn_model.specs.Lists.{has_number}
use Rattle.xn_model.specs.Lives.{Life, Lives, StoreState, life_at, lowest_free}
use Rattle.xn_model.specs.Results.{Gives, result_and_then, unless}
use Rattle.xn_model.specs.Rules.{IsConsistent}
use Rattle.xn_model.specs.Types.{Types, within_size}
use Rattle.xn_model.proofs.ForCallers.{forget_keeps, init_keeps, lowest_is, place_from, same_ok, set_other, set_same, unless_ok}
use Rattle.treefs_model.specs.declared.fault.Fault.{Fault}
use Rattle.treefs_model.specs.declared.fault.Fault.TheVariants.{Kernel}
use Rattle.treefs_edits.specs.Plans.{Begins, Does, DoesPlanned, Plan, forgotten, left_by}
use Rattle.treefs_edits.specs.declared.start.Start.{Start}
use Rattle.treefs_laws.proofs.Forgotten.{life_within}

module _ (T : Types) (fs : ℕ) where
  -- the life of a block that was begun, and has had no edit
  pub record IsStarted (lives : Lives) (b : ℕ) : Type 0 where
    pub entry : ℕ
    pub ty : ℕ
    pub bytes : List ℕ
    pub life : life_at lives b ≡ Some (new_life entry (Some fs) ty bytes)
    pub bare : owns_nothing T ty bytes ≡ true

  -- such a block can be forgotten
  forgets : (s : StoreState) (b : ℕ) → IsStarted s.lives b → forget_of T s fs b ≡ Ok (tt, record s { lives = slice_set s.lives b None })
  forgets s b is =
      let l : Life = new_life is.entry (Some fs) is.ty is.bytes in
      ap (λ o. result_and_then (forget_at T s b) (own_place fs o)) (place_from s.lives b l is.life)
      ∙ (ap (λ t. result_and_then (forget_at T s b) (unless (if not t then Some refusal.NotYours else None) (Ok l))) (eq-eqb fs fs refl)
      ∙ ap (λ t. unless (if not t then Some refusal.NotEmpty else None) (Ok (tt, record s { lives = slice_set s.lives b None }))) is.bare)

  -- blocks that are apart
  abbrev AreApart : List ℕ → Type 0
  AreApart [] = ⊤
  AreApart (b ∷ bs) = All (λ c. c ≢ b) bs × AreApart bs

  module _ (b : ℕ) (o : Option Life) where
    still_started : (s : StoreState) (c : ℕ) → c ≢ b → IsStarted s.lives c → IsStarted (slice_set s.lives b o) c
    still_started s c ne is = record { entry = is.entry; ty = is.ty; bytes = is.bytes; life = set_other s.lives b c o ne ∙ is.life; bare = is.bare }

    all_still : (s : StoreState) (bs : List ℕ) → All (λ c. c ≢ b) bs → All (IsStarted s.lives) bs → All (IsStarted (slice_set s.lives b o)) bs
    all_still s [] apart all = All-nil (IsStarted (slice_set s.lives b o))
    all_still s (c ∷ bs) apart all = All-cons (IsStarted (slice_set s.lives b o)) c bs
        (still_started s c (All-head (λ c. c ≢ b) c bs apart) (All-head (IsStarted s.lives) c bs all))
        (all_still s bs (All-tail (λ c. c ≢ b) c bs apart) (All-tail (IsStarted s.lives) c bs all))

  -- the lives once they are forgotten
  abbrev pub life_without : List ℕ → Lives → ℕ → Option Life
  life_without bs lives c = if has_number bs c then None else life_at lives c

  set_here : (lives : Lives) (b : ℕ) (l : Life) → life_at lives b ≡ Some l → life_at (slice_set lives b None) b ≡ None
  set_here lives b l there = set_same lives b None (life_within lives b l there)

  pub forgotten_lives : (bs : List ℕ) (s : StoreState) → AreApart bs → All (IsStarted s.lives) bs → (c : ℕ) →
      life_at (forgotten T fs bs s).lives c ≡ life_without bs s.lives c
  forgotten_lives [] s apart all c = refl
  forgotten_lives (b ∷ bs) s apart all c =
      let is = All-head (IsStarted s.lives) b bs all in
      let s' : StoreState = record s { lives = slice_set s.lives b None } in
      ap (λ r. life_at (forgotten T fs bs (left_by r s)).lives c) (forgets s b is)
      ∙ (forgotten_lives bs s' apart.1 (all_still b None s bs apart.0 (All-tail (IsStarted s.lives) b bs all)) c ∙ elim (cases_eq b c) [
        | inl same ↦
            ap (λ o. if has_number bs c then None else o)
            (ap (life_at (slice_set s.lives b None)) (sym same) ∙ set_here s.lives b (new_life is.entry (Some fs) is.ty is.bytes) is.life)
            ∙ (none_both (has_number bs c) ∙ sym (ap (λ t. if t || has_number bs c then None else life_at s.lives c) (eq-eqb b c same)))
        | inr ne ↦
            ap (λ o. if has_number bs c then None else o) (set_other s.lives b c None (λ same. ne (sym same)))
            ∙ sym (ap (λ t. if t || has_number bs c then None else life_at s.lives c) (ne_eqb b c ne))
      ])
    where
      none_both : (t : Bool) → ◌≡◌ {A = Option Life} (if t then None else None) None
      none_both true = refl
      none_both false = refl

  pub forgotten_sound : (bs : List ℕ) (s : StoreState) → IsConsistent T s → IsConsistent T (forgotten T fs bs s)
  forgotten_sound [] s h = h
  forgotten_sound (b ∷ bs) s h = forgotten_sound bs (left_by (forget_of T s fs b) s) (by (forget_of T s fs b) refl)
    where
      by : (r : Result (Unit {0} × StoreState) Refusal) → forget_of T s fs b ≡ r → IsConsistent T (left_by r s)
      by (Ok (done, after)) e = (forget_keeps T s h fs b done after e).consistent
      by (Err reason) e = h

  -- Blocks are begun until one isn't

  pub record IsKeptBy (lives : Lives) (begun : List ℕ) (s : StoreState) : Type 0 where
    pub sound : IsConsistent T s
    pub apart : AreApart begun
    pub started : All (IsStarted s.lives) begun
    pub others : (c : ℕ) → life_without begun s.lives c ≡ life_at lives c

  abbrev pub SameLives : Lives → StoreState → Type 0
  SameLives lives new = IsConsistent T new × ((c : ℕ) → life_at new.lives c ≡ life_at lives c)

  pub forgotten_same : (lives : Lives) (begun : List ℕ) (s : StoreState) → IsKeptBy lives begun s → SameLives lives (forgotten T fs begun s)
  forgotten_same lives begun s is = (forgotten_sound begun s is.sound, λ c. forgotten_lives begun s is.apart is.started c ∙ is.others c)

  module _ (lives : Lives) (begun : List ℕ) (s : StoreState) (is : IsKeptBy lives begun s) (start : Start) (made : ℕ × ℕ) (after : StoreState)
      (done : init_of T s fs start.ty start.bytes ≡ Ok (made, after)) where
    abbrev b : ℕ
    b = made.0

    record IsMade : Type 0 where
      free : life_at s.lives b ≡ None
      within : b < length s.lives
      lives_are : after.lives ≡ slice_set s.lives b (Some (new_life s.next (Some fs) start.ty start.bytes))
      bare : owns_nothing T start.ty start.bytes ≡ true

    is_made : IsMade
    is_made =
        let u = unless_ok (
        (nat_lt start.ty 2 || not (T.installed start.ty), refusal.BadType)
        ∷ (too_many s fs 0, refusal.TooManyPending)
        ∷ (exhausted s, refusal.Exhausted)
        ∷ (not (within_size T start.ty start.bytes), refusal.SizeWrong)
        ∷ (not (owns_nothing T start.ty start.bytes), refusal.ClaimWrong)
        ∷ []) (init_at s fs start.ty start.bytes (lowest_free s.lives)) (made, after) done in
        by (not-false (owns_nothing T start.ty start.bytes) u.0.1.1.1.1.0) (lowest_free s.lives) refl u.1
      where
        by : owns_nothing T start.ty start.bytes ≡ true → (o : Option ℕ) → lowest_free s.lives ≡ o → init_at s fs start.ty start.bytes o ≡ Ok (made, after) →
            IsMade
        by bare None e none = absurd (cc none)
        by bare (Some x) e is_made =
            let same : ((x, s.next), started s (Some fs) start.ty start.bytes x) ≡ (made, after) =
            same_ok ((x, s.next), started s (Some fs) start.ty start.bytes x) (made, after) is_made in
            let at : x ≡ b = ap (λ (p : (ℕ × ℕ) × StoreState). p.0.0) same in
            let low = lowest_is s.lives x e in
            record {
              free = ap (life_at s.lives) (sym at) ∙ low.1;
              within = subst (λ y. y < length s.lives) at low.0;
              lives_are = sym (ap (λ (p : (ℕ × ℕ) × StoreState). p.1.lives) same)
                  ∙ ap (λ y. slice_set s.lives y (Some (new_life s.next (Some fs) start.ty start.bytes))) at;
              bare = bare;
            }

    -- it is none of those before it
    new_apart : (bs : List ℕ) → All (IsStarted s.lives) bs → All (λ c. c ≢ b) bs
    new_apart [] all = All-nil (λ c. c ≢ b)
    new_apart (c ∷ bs) all =
        let x = All-head (IsStarted s.lives) c bs all in
        All-cons (λ c. c ≢ b) c bs (λ same. absurd (cc (sym x.life ∙ (ap (life_at s.lives) same ∙ is_made.free))))
        (new_apart bs (All-tail (IsStarted s.lives) c bs all))

    apart_end : (bs : List ℕ) → All (λ c. c ≢ b) bs → AreApart bs → AreApart (bs ++ b ∷ [])
    apart_end [] others apart = (All-nil (λ c. c ≢ b), tt)
    apart_end (c ∷ bs) others apart = (
      All-append (λ d. d ≢ c) bs (b ∷ []) apart.0 (All-cons (λ d. d ≢ c) b [] (λ same. All-head (λ c. c ≢ b) c bs others (sym same)) (All-nil (λ d. d ≢ c))),
      apart_end bs (All-tail (λ c. c ≢ b) c bs others) apart.1,
    )

    has_end : (bs : List ℕ) (c : ℕ) → has_number (bs ++ b ∷ []) c ≡ (has_number bs c || (b == c))
    has_end [] c = by (b == c)
      where
        by : (t : Bool) → (t || false) ≡ (false || t)
        by true = refl
        by false = refl
    has_end (d ∷ bs) c = ap (λ t. (d == c) || t) (has_end bs c) ∙ or_again (d == c) (has_number bs c) (b == c)
      where
        or_again : (x y z : Bool) → (x || (y || z)) ≡ ((x || y) || z)
        or_again true y z = refl
        or_again false y z = refl

    others_end : (c : ℕ) → life_without (begun ++ b ∷ []) after.lives c ≡ life_at lives c
    others_end c =
        let m = is_made in
        ap (λ t. if t then None else life_at after.lives c) (has_end begun c)
        ∙ elim (cases_eq b c) [
          | inl same ↦
              ap (λ t. if has_number begun c || t then None else life_at after.lives c) (eq-eqb b c same)
              ∙ (all_none (has_number begun c) (life_at after.lives c)
              ∙ (sym (either_none (has_number begun c) (life_at s.lives c) (ap (life_at s.lives) (sym same) ∙ m.free)) ∙ is.others c))
          | inr ne ↦
              ap (λ t. if has_number begun c || t then None else life_at after.lives c) (ne_eqb b c ne)
              ∙ (ap (λ o. if has_number begun c || false then None else o)
              (ap (λ xs. life_at xs c) m.lives_are ∙ set_other s.lives b c (Some (new_life s.next (Some fs) start.ty start.bytes)) (λ same. ne (sym same)))
              ∙ (or_false (has_number begun c) (life_at s.lives c) ∙ is.others c))
        ]
      where
        all_none : (t : Bool) (o : Option Life) → ◌≡◌ {A = Option Life} (if t || true then None else o) None
        all_none true o = refl
        all_none false o = refl

        either_none : (t : Bool) (o : Option Life) → o ≡ None → ◌≡◌ {A = Option Life} (if t then None else o) None
        either_none true o none = refl
        either_none false o none = none

        or_false : (t : Bool) (o : Option Life) → ◌≡◌ {A = Option Life} (if t || false then None else o) (if t then None else o)
        or_false true o = refl
        or_false false o = refl

    pub kept_more : IsKeptBy lives (begun ++ made.0 ∷ []) after
    kept_more =
        let m = is_made in
        let others = new_apart begun is.started in
        record {
          sound = (init_keeps T s is.sound fs start.ty start.bytes made after done).consistent;
          apart = apart_end begun others is.apart;
          started = subst (λ xs. All (IsStarted xs) (begun ++ b ∷ [])) (sym m.lives_are)
              (All-append (IsStarted (slice_set s.lives b (Some (new_life s.next (Some fs) start.ty start.bytes)))) begun (b ∷ [])
              (all_still b (Some (new_life s.next (Some fs) start.ty start.bytes)) s begun others is.started)
              (All-cons (IsStarted (slice_set s.lives b (Some (new_life s.next (Some fs) start.ty start.bytes)))) b [] (record {
                entry = s.next;
                ty = start.ty;
                bytes = start.bytes;
                life = set_same s.lives b (Some (new_life s.next (Some fs) start.ty start.bytes)) m.within;
                bare = m.bare;
              }) (All-nil (IsStarted (slice_set s.lives b (Some (new_life s.next (Some fs) start.ty start.bytes)))))));
          others = others_end;
        }

  given : {A : Type 0} (r : Result (A × StoreState) Refusal) (old new : StoreState) (x : A) → Gives r old new (Ok x) → r ≡ Ok (x, new)
  given (Ok (y, after)) old new x (inl is) = λ j. Ok (same_ok y x (sym is.0) j, sym is.1 j)
  given (Ok (y, after)) old new x (inr none) = absurd (cc none.0)
  given (Err reason) old new x is = absurd (cc is.0)

  pub begins_same : (lives : Lives) (starts : List Start) (begun : List ℕ) (old new : StoreState) (fault : Fault) → IsKeptBy lives begun old →
      Begins T fs starts begun old new (Err fault) → SameLives lives new
  begins_same lives [] begun old new fault is begins = absurd (cc begins.0)
  begins_same lives (start ∷ starts) begun old new fault is (inl (reason, refused, fault_is, left)) =
      subst (SameLives lives) (sym left) (forgotten_same lives begun old is)
  begins_same lives (start ∷ starts) begun old new fault is (inr (made, middle, begins, more)) =
      begins_same lives starts (begun ++ made.0 ∷ []) middle new fault
      (kept_more lives begun old is start made middle (given (init_of T old fs start.ty start.bytes) old middle made begins)) more

  -- A plan that finds no space

  pub does_same : (plan : Plan) (old new : StoreState) (fault : Fault) → IsConsistent T old → ((reason : Refusal) → fault ≢ Kernel reason) →
      Does T fs plan old new (Err fault) → SameLives old.lives new
  does_same plan old new fault sound space (inl (inl lacks)) = absurd (space refusal.NoMemory lacks.0)
  does_same plan old new fault sound space (inl (inr begins)) = begins_same old.lives plan.starts [] old new fault
      (record { sound = sound; apart = tt; started = All-nil (IsStarted old.lives); others = λ c. refl }) begins
  does_same plan old new fault sound space (inr (begun, middle, begins, (left, reason, is, ran, left_is))) = absurd (space reason is)

  pub planned_same : (planned : Result Plan Fault) (old new : StoreState) (fault : Fault) → IsConsistent T old → ((reason : Refusal) → fault ≢ Kernel reason) →
      DoesPlanned T fs planned old new (Err fault) → SameLives old.lives new
  planned_same (Ok plan) old new fault sound space does = does_same plan old new fault sound space does
  planned_same (Err other) old new fault sound space (inl lacks) = absurd (space refusal.NoMemory lacks.0)
  planned_same (Err other) old new fault sound space (inr none) = subst (SameLives old.lives) (sym none.1) (sound, λ c. refl)
