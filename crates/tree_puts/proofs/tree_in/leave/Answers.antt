use Rattle.std.proofs.Common.{Ok, refl}
use Rattle.tree_puts.specs.Folders.{entered}
use Rattle.tree_puts.proofs.Going.{left_with}
use Rattle.tree_puts.proofs.Unchanged.{none_changed}
use Rattle.tree_puts.proofs.tree_in.leave.Goals as goal

pub returns-in-Ok-clause-does : goal.returns-in-Ok-clause-does
returns-in-Ok-clause-does g c = (Ok tt, _, c.in-Ok.ensures.does, none_changed _)

pub returns-in-Err-clause-does : goal.returns-in-Err-clause-does
returns-in-Err-clause-does g c =
    left_with (entered c.args.last.now) c.in-Err.fault _ _ _ c.in-Err.ensures.does ((refl, refl), refl, refl, (refl, refl)) c.go_on.result c.go_on.ensures
