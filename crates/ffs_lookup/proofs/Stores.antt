-- What a store's clauses say.
use Rattle.std.proofs.Common.{◌≡◌, ℕ, inl, inr, List, Result, Ok, Err, sym, ap, Bor}
use Rattle.store_types.specs.declared.refusal.Refusal.{Refusal}
use Rattle.xn_model.specs.Lives.{StoreState}
use Rattle.xn_model.specs.Results.{Gives, Lends}
use Rattle.xn_model.specs.Calls.{read_of}
use Rattle.ffs_model.specs.Cuts.{latest}
use Rattle.ffs_model.proofs.ForCallers.{read_latest}

-- an answer that is lent
pub lends_ok : {A : Type 0} (r : Result A Refusal) (lent : Bor A) → Lends r (Ok lent) → r ≡ Ok lent.now
lends_ok (Ok value) lent h = ap Ok (sym h)
lends_ok (Err refusal) lent h = absurd h

-- an answer of a call that changes the state, and what a refusal leaves
pub gives_ok : {A : Type 0} (r : Result (A × StoreState) Refusal) (old new : StoreState) (answer : A) → Gives r old new (Ok answer) → r ≡ Ok (answer, new)
gives_ok (Ok (first, after)) old new answer h = elim h [ inl p ↦ cc | inr p ↦ cc ]
gives_ok (Err refusal) old new answer h = cc

pub gives_err : {A : Type 0} (r : Result (A × StoreState) Refusal) (old new : StoreState) (refusal : Refusal) → Gives r old new (Err refusal) → new ≡ old
gives_err (Ok (first, after)) old new refusal h = elim h [ inl p ↦ cc | inr p ↦ p.1 ]
gives_err (Err first) old new refusal h = h.1

-- what is read are the newest bytes
pub lent_latest : (state : StoreState) (fs b : ℕ) (lent : Bor (List ℕ)) → Lends (read_of state fs b) (Ok lent) → latest state.lives b ≡ lent.now
lent_latest state fs b lent h = read_latest state fs b lent.now (lends_ok (read_of state fs b) lent h)
