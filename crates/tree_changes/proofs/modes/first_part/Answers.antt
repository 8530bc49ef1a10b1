use Rattle.std.proofs.Common.{None}
use Rattle.tree_changes.proofs.PartsCut.{first_cut}
use Rattle.tree_changes.proofs.modes.first_part.Goals as goal

pub returns-in-Some : goal.returns-in-Some
returns-in-Some c = rw c.in-Some.is at (first_cut c.args.text.now c.split_once.result c.split_once.ensures.cases)

pub returns-in-None : goal.returns-in-None
returns-in-None c = first_cut c.args.text.now None c.in-None.ensures.cases
