use Rattle.xn_model.proofs.Picks.{picks_first, picks_none}
use Rattle.xn_model.proofs.picks_are_ready.Goals as goal

pub returns-clause-first : goal.returns-clause-first
returns-clause-first c = picks_first

pub returns-clause-none : goal.returns-clause-none
returns-clause-none c = picks_none
