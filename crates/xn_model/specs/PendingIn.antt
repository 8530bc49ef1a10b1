-- What is pending in one block.
--     pending_in_of state b       how many entries, those that a begun write carries included
--     newest_entry_of state b     the number of the newest of them
use Rattle.std.specs.Prelude.{ℕ, Option, Some, None, option_map}
use Rattle.std.specs.List.{last_or}
use Rattle.xn_model.specs.Lives.{Life, StoreState, life_at}
use Rattle.xn_model.specs.Calls.{life_pending}

abbrev pub pending_in_of : StoreState → ℕ → ℕ
pending_in_of state b = life_pending (life_at state.lives b)

abbrev pub newest_entry : Option Life → Option ℕ
newest_entry None = None
newest_entry (Some l) = option_map (λ s. s.entry) (last_or None l.pending)

abbrev pub newest_entry_of : StoreState → ℕ → Option ℕ
newest_entry_of state b = newest_entry (life_at state.lives b)
