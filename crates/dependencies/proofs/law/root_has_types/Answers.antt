use Rattle.std.proofs.Common.{refl}
use Rattle.dependencies.proofs.Waits.{root_has}
use Rattle.dependencies.proofs.law.root_has_types.Goals as goal

pub returns : goal.returns
returns p = λ T state l earlier later s c u ok alive split i. root_has T state 0 l earlier later s ok alive split refl c u i
