-- The block that the first entry of another one waits for that is not safe; None where all are.
use Rattle.std.specs.Prelude.{ℕ, Option}
use Rattle.xn_model.specs.Lives.{StoreState, life_at}
use Rattle.dependencies.specs.Awaits.{awaited_in}

abbrev pub awaited_of : StoreState → ℕ → Option ℕ
awaited_of state b = awaited_in state.lives (life_at state.lives b)
