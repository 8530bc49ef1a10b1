use Rattle.claims.proofs.Insertions.{insertion_claimed}
use Rattle.claims.proofs.law.insertions_are_claimed.Goals as goal

pub returns : goal.returns
returns c = λ T state b fs l new adds ok alive may is. insertion_claimed T state b fs l new adds ok alive may is
