use Rattle.dependencies.proofs.Waits.{safe_is}
use Rattle.dependencies.proofs.law.safe_by_count.Goals as goal

pub returns : goal.returns
returns c = λ T state b l earlier later s ok alive split. safe_is T state b l earlier later s ok alive split
