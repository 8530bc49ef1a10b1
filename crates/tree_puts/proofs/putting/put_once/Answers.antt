use Rattle.tree_puts.proofs.Going.{else_of}
use Rattle.tree_puts.proofs.PutSome.{once_put}
use Rattle.tree_puts.proofs.putting.put_once.Goals as goal

pub returns-in-Ok-clause-does : goal.returns-in-Ok-clause-does
returns-in-Ok-clause-does g c wide =
    let new = else_of _ _ c.in_ok-is_done.field-0 c.in_ok-is_done.ensures.does c.if-branch.false in
    once_put c.args.goods _ _ _ _ _ new.0 new.1 (c.put_regular.ensures.does wide)
