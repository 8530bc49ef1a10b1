use Rattle.std.proofs.Common.{◌-◌, ◌∷◌, []}
use Rattle.tree_puts.specs.Actions.Action.{writes}
use Rattle.tree_puts.proofs.Arrivals.{each_of_one}
use Rattle.tree_puts.proofs.Holes.{long_end}
use Rattle.tree_puts.proofs.Performed.{by_plan, one_done}
use Rattle.tree_puts.proofs.sparse.end_at.Goals as goal

pub returns-clause-does : goal.returns-clause-does
returns-clause-does g c =
    let before = c.args.volume.now in
    let after = c.write_all.new.self in
    let T = g.S.Store.types_of before.session.store in
    let old = g.S.Store.state_of before.session.store in
    let new = g.S.Store.state_of after.session.store in
    let size = c.args.size in
    rw (long_end size c.if-size.false)
    (by_plan (one_done T before.folder old new before.session.volume after.session.volume (writes c.args.begun.1 (size - 1) (0 ∷ [])) c.write_all.result
    c.write_all.ensures.does) (each_of_one c.args.begun.1 (size - 1) (0 ∷ []) c.write_all.result))
