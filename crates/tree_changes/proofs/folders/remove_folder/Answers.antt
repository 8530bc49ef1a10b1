use Rattle.std.proofs.Common.{inr}
use Rattle.tree_changes.specs.Folders.{GivesUpFolder, IsFolderKept, RmdirIn}
use Rattle.tree_changes.proofs.Along.{calls_at}
use Rattle.tree_changes.proofs.folders.remove_folder.Goals as goal

pub returns-clause-does : goal.returns-clause-does
returns-clause-does g c =
    let before = c.args.opened.now in
    let after = c.make.new.self in
    let T = g.S.Store.types_of before.session.store in
    let old = g.S.Store.state_of before.session.store in
    let new = g.S.Store.state_of after.session.store in
    let place = c.in_ok-place.place in
    calls_at (GivesUpFolder T before.folder) (IsFolderKept T before.folder) c.args.path.now old new before.session.volume after.session.volume
    (RmdirIn T before.folder place.folder place.name.now old new before.session.volume after.session.volume) c.make.result c.make.ensures.does
    (λ made. (place.folder, place.name.now, place.has_slash, c.in_ok-place.ensures.ok, made))
    (λ fault refused. inr (fault, (place.folder, place.name.now, place.has_slash, c.in_ok-place.ensures.ok, refused)))
