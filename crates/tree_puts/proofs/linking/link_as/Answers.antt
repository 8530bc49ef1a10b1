use Rattle.tree_puts.specs.Actions.Action.{links}
use Rattle.tree_puts.proofs.Performed.{one_done}
use Rattle.tree_puts.proofs.linking.link_as.Goals as goal

pub returns-clause-does : goal.returns-clause-does
returns-clause-does g c =
    let before = c.args.volume.now in
    let after = c.make_name.new.self in
    let T = g.S.Store.types_of before.session.store in
    let old = g.S.Store.state_of before.session.store in
    let new = g.S.Store.state_of after.session.store in
    one_done T before.folder old new before.session.volume after.session.volume (links c.args.number c.args.goods.place.folder c.args.name.now)
    c.make_name.result c.make_name.ensures.does
