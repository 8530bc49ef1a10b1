use Rattle.std.proofs.Common.{inr}
use Rattle.tree_puts.specs.Folders.{entered}
use Rattle.tree_puts.proofs.putting.fill_there.Goals as goal

pub returns-clause-does : goal.returns-clause-does
returns-clause-does g c wide = inr (entered c.in_ok-frame.frame, _, c.in_ok-frame.ensures.does, c.put_folder.ensures.does wide)
