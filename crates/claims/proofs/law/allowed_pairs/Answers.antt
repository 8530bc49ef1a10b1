use Rattle.claims.proofs.OwnedPairs.{allowed_is}
use Rattle.claims.proofs.law.allowed_pairs.Goals as goal

pub returns : goal.returns
returns c = λ T state b l new adds drops ok alive. allowed_is T state b l ok alive new adds drops
