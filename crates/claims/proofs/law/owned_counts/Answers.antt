use Rattle.claims.proofs.CountedPairs.{owned_counted}
use Rattle.claims.proofs.law.owned_counts.Goals as goal

pub returns : goal.returns
returns c = λ T state b l ok alive. owned_counted T state b l ok alive
