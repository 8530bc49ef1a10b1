-- Which chunks of a block decide what it owns.
use Rattle.std.specs.Prelude.{◌≡◌, ℕ, List}
use Rattle.xn_model.specs.Types.{Types}
use Rattle.udf_run.specs.ReadSets.{AgreeOn}
use Rattle.udf_run.specs.Safe.{IsBlock}

-- under this type each block that holds the same bytes in these chunks owns the same
abbrev pub DecidesOwned : Types → ℕ → List ℕ → ℕ → Type 0
DecidesOwned T t block chunks = (other : List ℕ) → IsBlock other → AgreeOn chunks block other → T.owned t other ≡ T.owned t block
