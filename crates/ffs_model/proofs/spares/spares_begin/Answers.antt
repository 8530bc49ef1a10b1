use Rattle.ffs_model.proofs.ToSpare.{names_now, spare_begins}
use Rattle.ffs_model.proofs.spares.spares_begin.Goals as goal

pub returns-clause-names : goal.returns-clause-names
returns-clause-names c = names_now

pub returns-clause-spare : goal.returns-clause-spare
returns-clause-spare c = spare_begins
