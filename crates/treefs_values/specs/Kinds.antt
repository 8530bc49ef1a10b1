-- The types that a file system sees.
--     kinds state fs    the type of each block; 0 for one that may not be read
use Rattle.std.specs.Prelude.{ℕ, Result, Ok, Err}
use Rattle.store_types.specs.declared.refusal.Refusal.{Refusal}
use Rattle.xn_model.specs.Lives.{StoreState}
use Rattle.xn_model.specs.Calls.{kind_of}

abbrev pub kind_or_none : Result ℕ Refusal → ℕ
kind_or_none (Ok kind) = kind
kind_or_none (Err refusal) = 0

unfoldable pub kinds : StoreState → ℕ → ℕ → ℕ
kinds state fs block = kind_or_none (kind_of state fs block)
