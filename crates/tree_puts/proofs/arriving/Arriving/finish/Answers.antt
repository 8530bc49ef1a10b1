use Rattle.std.proofs.Common.{inl, inr, refl}
use Rattle.tree_puts.specs.Actions.Action.{names}
use Rattle.tree_puts.proofs.Performed.{both_done, by_plan, one_done}
use Rattle.tree_puts.proofs.arriving.Arriving.finish.Goals as goal

pub returns-in_err-write_pieces-clause-does : goal.returns-in_err-write_pieces-clause-does
returns-in_err-write_pieces-clause-does g c wide within =
    by_plan (c.in_err-write_pieces.ensures.does wide within)
    (λ actions planned. inl (c.from_residual.ensures.0, (c.in_err-write_pieces.field-0.0, planned)))

pub returns-clause-does : goal.returns-clause-does
returns-clause-does g c wide within =
    let between = c.write_pieces.new.volume in
    let after = c.make_name.new.self in
    let place = c.args.goods.place in
    both_done (c.in_ok-write_pieces.ensures.does wide within) c.write_pieces.ensures.types c.write_pieces.ensures.folder
    (one_done (g.S.Store.types_of between.session.store) between.folder (g.S.Store.state_of between.session.store) (g.S.Store.state_of after.session.store)
    between.session.volume after.session.volume (names c.args.block place.folder place.name.now) c.make_name.result c.make_name.ensures.does)
    (λ before behind one other. inr (tt, before, behind, refl, one, other))
