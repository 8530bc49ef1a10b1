use Rattle.treefs_name_plans.proofs.Placed.{placed_within}
use Rattle.treefs_name_plans.proofs.new_names.places_are_within.Goals as goal

pub returns : goal.returns
returns c = placed_within
