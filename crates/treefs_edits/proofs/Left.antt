-- The state that a call leaves.
use Rattle.std.proofs.Common.{◌≡◌, Result, Ok, Err}
use Rattle.xn_model.specs.Lives.{StoreState}
use Rattle.store_types.specs.declared.refusal.Refusal.{Refusal}
use Rattle.xn_model.specs.Results.{GivesExactly}
use Rattle.treefs_edits.specs.Plans.{left_by}

pub exactly_left : (called : Result (Unit {0} × StoreState) Refusal) (old new : StoreState) (result : Result (Unit {0}) Refusal) → GivesExactly called old new result → new ≡ left_by called old
exactly_left (Ok (x, after)) old new result h = h.1
exactly_left (Err refusal) old new result h = h.1
