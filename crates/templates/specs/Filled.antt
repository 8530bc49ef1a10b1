-- A block that points to more blocks than before.
--     Inserts T t old adds new     these blocks, one behind another, among those that it pointed to
use Rattle.std.specs.Prelude.{ℕ, List}
use Rattle.xn_model.specs.Types.{Types}
use Rattle.udf_run.specs.SlotRows.{IsInsertion}

abbrev pub Inserts : Types → ℕ → List ℕ → List (ℕ × ℕ) → List ℕ → Type 0
Inserts T t old adds new = IsInsertion (T.owned t old) adds (T.owned t new)
