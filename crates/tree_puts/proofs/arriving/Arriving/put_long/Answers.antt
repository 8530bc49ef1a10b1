use Rattle.std.proofs.Common.{inl, inr, refl}
use Rattle.tree_puts.proofs.Performed.{both_done, by_plan}
use Rattle.tree_puts.proofs.arriving.Arriving.put_long.Goals as goal

pub returns-in_err-block-clause-does : goal.returns-in_err-block-clause-does
returns-in_err-block-clause-does g c wide within =
    by_plan (c.in_err-block.ensures.does within) (λ actions planned. inl (c.from_residual.ensures.0, (c.in_err-block.field-0.0, planned)))

pub returns-clause-does : goal.returns-clause-does
returns-clause-does g c wide within =
    both_done (c.in_ok-block.ensures.does within) c.begin_file.ensures.types c.begin_file.ensures.folder (c.finish_or_give_up.ensures.does wide within)
    (λ before behind one other. inr (c.in_ok-block.block, before, behind, refl, one, other))
