use Rattle.std.proofs.Common.{inr}
use Rattle.tree_changes.specs.Emptying.{KeepsNamed, KeepsSome, RemovesAll, RemovesAllNamed}
use Rattle.tree_changes.specs.Removing.{IsKept, IsNameKept, Removes, RemovesNamed}
use Rattle.tree_changes.proofs.Along.{answered_as}
use Rattle.tree_changes.proofs.AlongTold.{answered_with}
use Rattle.tree_changes.proofs.Removals.{kept, removed}
use Rattle.tree_changes.proofs.removing.remove_one.Goals as goal

pub returns-in_ok-_own-in-Ok-clause-does : goal.returns-in_ok-_own-in-Ok-clause-does
returns-in_ok-_own-in-Ok-clause-does g c =
    let before = c.args.opened.now in
    let after = c.remove_named.new.opened in
    let T = g.S.Store.types_of before.session.store in
    let old = g.S.Store.state_of before.session.store in
    let new = g.S.Store.state_of after.session.store in
    let volume = before.session.volume in
    let volume' = after.session.volume in
    let forced = c.args.how.is_forced in
    let path = c.args.path.now in
    let place = c.in-Ok.place in
    let own = c.in_ok-_own-in-Ok in
    λ plain. answered_as (RemovesNamed forced T before.folder place.folder place.name.now place.has_slash old new volume volume')
    (IsNameKept T before.folder place.folder place.name.now place.has_slash old new volume volume')
    (Removes forced T before.folder path old new volume volume') (IsKept T before.folder path old new volume volume') c.remove_named.result
    (c.remove_named.ensures.does plain)
    (removed forced T before.folder path old new volume volume' own._own.now place.folder place.name.now place.has_slash own.ensures c.in-Ok.ensures.ok)
    (kept forced T before.folder path old new volume volume' own._own.now place.folder place.name.now place.has_slash own.ensures c.in-Ok.ensures.ok)

pub returns-in_ok-_own-in-Ok-clause-all : goal.returns-in_ok-_own-in-Ok-clause-all
returns-in_ok-_own-in-Ok-clause-all g c =
    let before = c.args.opened.now in
    let after = c.remove_named.new.opened in
    let T = g.S.Store.types_of before.session.store in
    let old = g.S.Store.state_of before.session.store in
    let new = g.S.Store.state_of after.session.store in
    let volume = before.session.volume in
    let volume' = after.session.volume in
    let forced = c.args.how.is_forced in
    let path = c.args.path.now in
    let place = c.in-Ok.place in
    let own = c.in_ok-_own-in-Ok in
    λ recursive. answered_with
    (RemovesAllNamed forced T before.folder path place.folder place.name.now place.has_slash before.told after.told old new volume volume')
    (λ fault. KeepsNamed T before.folder path place.folder place.name.now place.has_slash fault before.told after.told old new volume volume')
    (RemovesAll forced T before.folder path before.told after.told old new volume volume')
    (λ fault. KeepsSome T before.folder path fault before.told after.told old new volume volume') c.remove_named.result (c.remove_named.ensures.all recursive)
    (λ made. inr (own._own.now, place.folder, place.name.now, place.has_slash, own.ensures, c.in-Ok.ensures.ok, made))
    (λ fault refused. inr (own._own.now, place.folder, place.name.now, place.has_slash, own.ensures, c.in-Ok.ensures.ok, refused))
