use Rattle.std.proofs.Common.{◌∙◌, sym}
use Rattle.dependencies.proofs.FirstUnmet.{home_gone, home_there}
use Rattle.dependencies.proofs.after.pending_block.Goals as goal

pub returns-then-is_pending_in : goal.returns-then-is_pending_in
returns-then-is_pending_in c = home_there c.args.cache.now c.args.homes.now c.in-Some.block c.args.number c.requires.homes (sym c.in-Some.ensures) (sym c.is_pending_in.ensures ∙ c.if-is_pending_in.true)

pub returns-else-is_pending_in : goal.returns-else-is_pending_in
returns-else-is_pending_in c = home_gone c.args.cache.now c.args.homes.now c.in-Some.block c.args.number c.requires.homes (sym c.in-Some.ensures) (sym c.is_pending_in.ensures ∙ c.if-is_pending_in.false)
