-- What a forget decides before it changes anything.
use Rattle.std.specs.Prelude.{ℕ, Bool, not, ◌&&◌, ◌||◌, ◌==◌, Result, Ok}
use Rattle.xn_model.specs.Types.{Types}
use Rattle.xn_model.specs.Lives.{StoreState, Life}
use Rattle.block_cache.specs.declared.life.Facts.{Facts}
use Rattle.store_types.specs.declared.refusal.Refusal.{Refusal}
use Rattle.xn_model.specs.Results.{unless, result_and_then}
use Rattle.xn_model.specs.Calls.{own_life, forget_refusal}

abbrev pub forget_plan_at : Types → Life → Result (Unit {0}) Refusal
forget_plan_at T l = unless (forget_refusal T l) (Ok tt)

-- whether the block may be forgotten, or the first refusal that applies
abbrev pub forget_plan : Types → StoreState → ℕ → ℕ → Result (Unit {0}) Refusal
forget_plan T state fs b = result_and_then (forget_plan_at T) (own_life state fs b)

-- nothing is pending but the entry that began the life
abbrev pub are_untouched : Facts → Bool
are_untouched facts = (facts.pending == 0) || (not facts.is_durable && (facts.pending == 1))
