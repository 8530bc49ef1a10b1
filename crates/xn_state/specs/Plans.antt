-- What a call decides before it changes anything.
use Rattle.std.specs.Prelude.{ℕ, List, Result, Ok}
use Rattle.xn_model.specs.Root.{with_slot}
use Rattle.xn_model.specs.Lives.{StoreState, Life}
use Rattle.store_types.specs.declared.refusal.Refusal.{Refusal}
use Rattle.xn_model.specs.Results.{unless, result_and_then}
use Rattle.xn_model.specs.Calls.{own_life, root_now, make_root_refusal}

-- block 0's bytes with the slot set, and the type that it is set to
abbrev pub make_root_plan_at : StoreState → ℕ → ℕ → Life → Result (List ℕ × ℕ) Refusal
make_root_plan_at state fs b l = unless (make_root_refusal state fs l) (Ok (with_slot (root_now state) fs (b, l.ty), l.ty))

abbrev pub make_root_plan : StoreState → ℕ → ℕ → Result (List ℕ × ℕ) Refusal
make_root_plan state fs b = result_and_then (make_root_plan_at state fs b) (own_life state fs b)
