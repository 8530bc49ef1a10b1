use Rattle.treefs_mending.proofs.Counted.{tally_here, tally_others}
use Rattle.treefs_mending.proofs.law.names_are_counted.Goals as goal

pub returns-clause-here : goal.returns-clause-here
returns-clause-here c = tally_here

pub returns-clause-others : goal.returns-clause-others
returns-clause-others c = tally_others
