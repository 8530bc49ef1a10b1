use Rattle.xn_model.proofs.Floors.{floor_low, floor_met, entries_counted}
use Rattle.xn_model.proofs.floor_is_least.Goals as goal

pub returns-clause-low : goal.returns-clause-low
returns-clause-low c = floor_low

pub returns-clause-met : goal.returns-clause-met
returns-clause-met c = floor_met

pub returns-clause-counted : goal.returns-clause-counted
returns-clause-counted c = entries_counted
