use Rattle.claims.proofs.OwnedPairs.{newest_pair}
use Rattle.claims.proofs.law.newest_pairs.Goals as goal

pub returns : goal.returns
returns c = λ T state b l c' u ok alive. newest_pair T state b l ok alive c' u
