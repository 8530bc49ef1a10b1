use Rattle.treefs_name_plans.proofs.Names.{named_short}
use Rattle.treefs_name_plans.proofs.new_names.names_are_short.Goals as goal

pub returns : goal.returns
returns c = named_short
