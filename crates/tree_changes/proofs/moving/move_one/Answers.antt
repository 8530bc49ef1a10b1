use Rattle.std.proofs.Common.{inl, inr}
use Rattle.tree_changes.specs.Moving.{RenameIn}
use Rattle.tree_changes.specs.Removing.{UnlinkIn}
use Rattle.tree_changes.proofs.Moved.{moves_at}
use Rattle.tree_changes.proofs.moving.move_one.Goals as goal

pub returns-then-has_both_names-clause-does : goal.returns-then-has_both_names-clause-does
returns-then-has_both_names-clause-does g c several has =
    let before = c.args.opened.now in
    let after = c.unlink.new.opened in
    let T = g.S.Store.types_of before.session.store in
    let old = g.S.Store.state_of before.session.store in
    let new = g.S.Store.state_of after.session.store in
    let from = c.in_ok-from.from in
    let place = c.place-place in
    moves_at T before.folder c.args.path.now old new before.session.volume after.session.volume c.in_ok-node.node from.folder from.name.now c.in_ok-name.name.now
    (from.has_slash, c.in_ok-from.ensures.ok, c.in_ok-node.ensures.0, c.in_ok-node.ensures.1, c.in_ok-name.ensures) c.args.to.0.now several c.args.to.1 has
    place.result.folder place.result.name.now place.result.has_slash place.ensures.folder place.ensures.name place.ensures.slash c.unlink.result
    (UnlinkIn T before.folder from.folder from.name.now old new before.session.volume after.session.volume)
    (λ answer done. inl (c.has_both_names.ensures c.if-has_both_names.true, done)) c.unlink.ensures.does

pub returns-clause-does : goal.returns-clause-does
returns-clause-does g c several has =
    let before = c.args.opened.now in
    let after = c.make_name-done.new.self in
    let T = g.S.Store.types_of before.session.store in
    let old = g.S.Store.state_of before.session.store in
    let new = g.S.Store.state_of after.session.store in
    let from = c.in_ok-from.from in
    let place = c.place-place in
    moves_at T before.folder c.args.path.now old new before.session.volume after.session.volume c.in_ok-node.node from.folder from.name.now c.in_ok-name.name.now
    (from.has_slash, c.in_ok-from.ensures.ok, c.in_ok-node.ensures.0, c.in_ok-node.ensures.1, c.in_ok-name.ensures) c.args.to.0.now several c.args.to.1 has
    place.result.folder place.result.name.now place.result.has_slash place.ensures.folder place.ensures.name place.ensures.slash c.make_name-done.result
    (RenameIn T before.folder from.folder from.name.now place.result.folder place.result.name.now old new before.session.volume after.session.volume)
    (λ answer done. inr (c.in_ok-is_taken.ensures, done)) c.make_name-done.ensures.does
