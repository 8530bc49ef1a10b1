-- A call that is refused leaves the state as it was.
use Rattle.std.proofs.Common.{◌≡◌, Err, Ok, Result, inl, inr}
use Rattle.xn_model.specs.Lives.{StoreState}
use Rattle.xn_model.specs.Results.{Gives}
use Rattle.store_types.specs.declared.refusal.Refusal.{Refusal}

pub refused : {A : Type 0} (r : Result (A × StoreState) Refusal) (old new : StoreState) (reason : Refusal) → Gives r old new (Err reason) → new ≡ old
refused (Ok (answer, after)) old new reason (inl p) = let e = p.0 in cc
refused (Ok (answer, after)) old new reason (inr p) = p.1
refused (Err refusal) old new reason p = p.1
