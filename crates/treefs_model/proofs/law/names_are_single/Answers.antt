use Rattle.treefs_model.proofs.Single.{one_bucket, single_keeps, single_over}
use Rattle.treefs_model.proofs.law.names_are_single.Goals as goal

pub returns-clause-cuts : goal.returns-clause-cuts
returns-clause-cuts c = one_bucket

pub returns-clause-edits : goal.returns-clause-edits
returns-clause-edits c = single_keeps

pub returns-clause-others : goal.returns-clause-others
returns-clause-others c = single_over
