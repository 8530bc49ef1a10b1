-- The entries of a consistent state find the types of what they add as `dependencies` wants it.
use Rattle.xn_model.specs.Types.{Types}
use Rattle.xn_model.specs.Lives.{StoreState}
use Rattle.xn_model.specs.Rules.{IsConsistent}
use Rattle.dependencies.proofs.ForCallers.{root_has}
use Rattle.dependencies.specs.Typed.{FindsTypes}
use Rattle.std.proofs.Common.{refl}

pub finds_types : (T : Types) (state : StoreState) → IsConsistent T state → FindsTypes state.lives
finds_types T state h = record {
  alone = λ b l alive zero'. (h.linked b l alive).root_alone zero';
  root = λ l earlier later s c u alive split adds. root_has T state 0 l earlier later s h alive split refl c u adds;
}
