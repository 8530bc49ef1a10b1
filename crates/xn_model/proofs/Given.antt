-- What the clause of a call says of the state after it.
use Rattle.std.proofs.Common.{◌≡◌, ◌⊎◌, ⊎_elim, inl, inr, Result, Ok, Err, sym, ap, subst}
use Rattle.store_types.specs.declared.refusal.Refusal.{Refusal}
use Rattle.xn_model.specs.Lives.{StoreState}
use Rattle.xn_model.specs.Results.{Gives, GivesExactly}

-- the state is as it was, or as the definition gives it
pub gives_cases : {A : Type 0} (r : Result (A × StoreState) Refusal) (old new : StoreState) (result : Result A Refusal) → Gives r old new result →
    (new ≡ old) ⊎ ((answer : A) × (r ≡ Ok (answer, new)))
gives_cases (Ok (answer, after)) old new result h = ⊎_elim (λ p. inr (answer, ap (λ s. Ok (answer, s)) (sym p.1))) (λ p. inl p.1) h
gives_cases (Err refusal) old new result h = inl h.1

pub gives_exactly_cases : {A : Type 0} (r : Result (A × StoreState) Refusal) (old new : StoreState) (result : Result A Refusal) → GivesExactly r old new result →
    (new ≡ old) ⊎ ((answer : A) × (r ≡ Ok (answer, new)))
gives_exactly_cases (Ok (answer, after)) old new result h = inr (answer, ap (λ s. Ok (answer, s)) (sym h.1))
gives_exactly_cases (Err refusal) old new result h = inl h.1

pub gives_exactly-ok : {A : Type 0} (r : Result (A × StoreState) Refusal) (old new : StoreState) (answer : A) → GivesExactly r old new (Ok answer) → r ≡ Ok (answer, new)
gives_exactly-ok (Ok (first, after)) old new answer h = cc
gives_exactly-ok (Err refusal) old new answer h = cc

-- so what the call's Ok keeps is kept
pub gives_keeps : {A : Type 0} (P : StoreState → Type 0) (r : Result (A × StoreState) Refusal) (old new : StoreState) (result : Result A Refusal) → Gives r old new result → P old →
    ((answer : A) → r ≡ Ok (answer, new) → P new) → P new
gives_keeps P r old new result h p given = ⊎_elim (λ same. subst P (sym same) p) (λ ok. given ok.0 ok.1) (gives_cases r old new result h)

pub gives_exactly_keeps : {A : Type 0} (P : StoreState → Type 0) (r : Result (A × StoreState) Refusal) (old new : StoreState) (result : Result A Refusal) → GivesExactly r old new result → P old →
    ((answer : A) → r ≡ Ok (answer, new) → P new) → P new
gives_exactly_keeps P r old new result h p given = ⊎_elim (λ same. subst P (sym same) p) (λ ok. given ok.0 ok.1) (gives_exactly_cases r old new result h)

-- a call that takes no memory and was refused changed nothing
pub gives_exactly-err : {A : Type 0} (r : Result (A × StoreState) Refusal) (old new : StoreState) (refusal : Refusal) → GivesExactly r old new (Err refusal) → new ≡ old
gives_exactly-err (Ok (first, after)) old new refusal h = cc
gives_exactly-err (Err first) old new refusal h = h.1
