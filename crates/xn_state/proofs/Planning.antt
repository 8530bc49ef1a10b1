-- What an installation decides, against the model's call.
use Rattle.std.proofs.Common.{◌≡◌, ◌⊎◌, ℕ, ◌+◌, ◌-◌, ◌^◌, ◌<◌, Bool, true, false, List, [], ◌∷◌, Option, Some, None, Ok, Err, refl, sym, ◌∙◌, ap, inl, inr, subst, ⊎_elim}
use Rattle.std.specs.Prelude.{IsOk, is_none, is_some, nat_le, unwrap_or}
use Rattle.std.proofs.lemmas.Bool.{false≢true, leb-false}
use Rattle.store_types.specs.declared.refusal.Refusal.{Refusal}
use Rattle.store_types.specs.declared.refusal.Refusal.TheVariants.{NoMemory, TooManyPending, NoSpace, Exhausted, NoSlot, BadTemplate}
use Rattle.xn_model.specs.Lives.{StoreState, life_at, lowest_free}
use Rattle.xn_model.specs.Results.{Gives, first_refusal, unless}
use Rattle.xn_model.specs.Calls.{empty_place, install_at, install_of, life_pending, root_now}
use Rattle.templates.specs.declared.fault.TemplateFault.{TemplateFault}
use Rattle.templates.specs.declared.fault.TemplateFault.TheVariants as fault
use Rattle.templates.specs.Reading.{template_of_bytes}
use Rattle.templates.specs.Language.{language}
use Rattle.templates.proofs.ForCallers.{language_none, language_some}
use Rattle.xn_state.specs.Installs.{install_places, template_refusal}

-- the first fault of a block, as a refusal
pub fault_refused : (m : List ℕ) (f : TemplateFault) → (f ≡ fault.NoMemory) ⊎ (template_of_bytes m ≡ Err f) → (f ≡ fault.NoMemory → IsOk (template_of_bytes m)) →
    ((template_refusal f ≡ BadTemplate) × (language m ≡ None)) ⊎ ((template_refusal f ≡ NoMemory) × (is_some (language m) ≡ true))
fault_refused m fault.NoMemory is last = inr (refl, language_some m (last refl))
fault_refused m fault.BadMark is last = inl (refl, ⊎_elim (λ e. absurd cc) (λ e. language_none m fault.BadMark e) is)
fault_refused m fault.BadCode is last = inl (refl, ⊎_elim (λ e. absurd cc) (λ e. language_none m fault.BadCode e) is)
fault_refused m fault.NotVerified is last = inl (refl, ⊎_elim (λ e. absurd cc) (λ e. language_none m fault.NotVerified e) is)
fault_refused m fault.BytesAfter is last = inl (refl, ⊎_elim (λ e. absurd cc) (λ e. language_none m fault.BytesAfter e) is)

-- one more test behind four
abbrev tests : Bool → Bool → Bool → Bool → List (Bool × Refusal) → List (Bool × Refusal)
tests a b c d more = (a, NoSlot) ∷ (b, TooManyPending) ∷ (c, Exhausted) ∷ (d, NoSpace) ∷ more

refused : {A B : Type 0} (a b c d : Bool) (more : List (Bool × Refusal)) (x : A) (y : B) (e : Refusal) → unless (first_refusal (tests a b c d [])) (Ok x) ≡ Err e → unless (first_refusal (tests a b c d more)) (Ok y) ≡ Err e
refused true b c d more x y e h = cc
refused false true c d more x y e h = cc
refused false false true d more x y e h = cc
refused false false false true more x y e h = cc
refused false false false false more x y e h = cc

-- where all four are passed
pub record Passed (a b c d : Bool) : Type 0 where
  pub slot : a ≡ false
  pub room : b ≡ false
  pub numbers : c ≡ false
  pub space : d ≡ false

passed : {A : Type 0} (a b c d : Bool) (x p : A) → unless (first_refusal (tests a b c d [])) (Ok x) ≡ Ok p → Passed a b c d × (x ≡ p)
passed true b c d x p h = absurd cc
passed false true c d x p h = absurd cc
passed false false true d x p h = absurd cc
passed false false false true x p h = absurd cc
passed false false false false x p h = (record { slot = refl; room = refl; numbers = refl; space = refl }, cc)

given : (o : Option ℕ) → is_none o ≡ false → o ≡ Some (unwrap_or o 0)
given None f = absurd (false≢true (sym f))
given (Some x) f = refl

module _ (state : StoreState) (m : List ℕ) where
  abbrev place : Option ℕ
  place = empty_place (root_now state)

  abbrev block : Option ℕ
  block = lowest_free state.lives

  abbrev full : Bool
  full = nat_le 64 (life_pending (life_at state.lives 0))

  abbrev spent : Bool
  spent = nat_le (2 ^ 64 - 1) (state.next + 1)

  pub places_refused : (e : Refusal) → install_places state ≡ Err e → install_of language state m ≡ Err e
  places_refused e h = refused (is_none place) full spent (is_none block) ((is_none (language m), BadTemplate) ∷ [])
      (unwrap_or place 0, unwrap_or block 0) ((3 + unwrap_or place 0, unwrap_or block 0, state.next), install_at state m (unwrap_or place 0) (unwrap_or block 0)) e h

  module _ (p : ℕ × ℕ) (h : install_places state ≡ Ok p) where
    facts : Passed (is_none place) full spent (is_none block) × ((unwrap_or place 0, unwrap_or block 0) ≡ p)
    facts = passed (is_none place) full spent (is_none block) (unwrap_or place 0, unwrap_or block 0) p h

    pub place_is : empty_place (root_now state) ≡ Some p.0
    place_is = given place facts.0.slot ∙ ap (λ (q : ℕ × ℕ). Some q.0) facts.1

    pub block_is : lowest_free state.lives ≡ Some p.1
    block_is = given block facts.0.space ∙ ap (λ (q : ℕ × ℕ). Some q.1) facts.1

    pub room_is : life_pending (life_at state.lives 0) < 64
    room_is = leb-false 64 (life_pending (life_at state.lives 0)) facts.0.room

    pub numbers_are : state.next + 1 < 2 ^ 64 - 1
    numbers_are = leb-false (2 ^ 64 - 1) (state.next + 1) facts.0.numbers

    -- with a template or without one
    decided : install_of language state m ≡ unless (first_refusal ((is_none (language m), BadTemplate) ∷ [])) (Ok ((3 + p.0, p.1, state.next), install_at state m p.0 p.1))
    decided =
        (λ i. unless (first_refusal (tests (facts.0.slot i) (facts.0.room i) (facts.0.numbers i) (facts.0.space i) ((is_none (language m), BadTemplate) ∷ [])))
        (Ok ((3 + unwrap_or place 0, unwrap_or block 0, state.next), install_at state m (unwrap_or place 0) (unwrap_or block 0))))
        ∙ ap (λ (q : ℕ × ℕ). unless (first_refusal ((is_none (language m), BadTemplate) ∷ [])) (Ok ((3 + q.0, q.1, state.next), install_at state m q.0 q.1))) facts.1

    pub bad_template : language m ≡ None → install_of language state m ≡ Err BadTemplate
    bad_template none = decided ∙ ap (λ o. unless (first_refusal ((is_none o, BadTemplate) ∷ [])) (Ok ((3 + p.0, p.1, state.next), install_at state m p.0 p.1))) none

    pub good_template : is_some (language m) ≡ true → install_of language state m ≡ Ok ((3 + p.0, p.1, state.next), install_at state m p.0 p.1)
    good_template some = decided ∙ go (language m) some
      where
        go : {A : Type 0} (o : Option A) → is_some o ≡ true →
            unless {A = (ℕ × ℕ × ℕ) × StoreState} (first_refusal ((is_none o, BadTemplate) ∷ [])) (Ok ((3 + p.0, p.1, state.next), install_at state m p.0 p.1)) ≡ Ok ((3 + p.0, p.1, state.next), install_at state m p.0 p.1)
        go None e = absurd (false≢true e)
        go (Some x) e = refl

    -- want of memory comes where all else is right, and changes nothing
    pub wants_memory : is_some (language m) ≡ true → Gives (install_of language state m) state state (Err NoMemory)
    wants_memory some = subst (λ r. Gives r state state (Err NoMemory)) (sym (good_template some)) (inr (refl, refl))

    pub refuses_template : (e : Refusal) → ((e ≡ BadTemplate) × (language m ≡ None)) ⊎ ((e ≡ NoMemory) × (is_some (language m) ≡ true)) → Gives (install_of language state m) state state (Err e)
    refuses_template e h = ⊎_elim
        (λ bad. subst (λ r. Gives r state state (Err e)) (sym (bad_template bad.1)) (ap (λ x. Err x) bad.0, refl))
        (λ want. subst (λ x. Gives (install_of language state m) state state (Err x)) (sym want.0) (wants_memory want.1))
        h
