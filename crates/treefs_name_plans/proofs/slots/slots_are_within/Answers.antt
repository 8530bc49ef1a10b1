use Rattle.treefs_name_plans.proofs.Within.{entry_within}
use Rattle.treefs_name_plans.proofs.slots.slots_are_within.Goals as goal

pub returns : goal.returns
returns c = entry_within
