use Rattle.udf_verify.proofs.Judged.{accepted_are_trees}
use Rattle.udf_verify.proofs.law.accepted_are_trees.Goals as goal

pub returns : goal.returns
returns c = accepted_are_trees
