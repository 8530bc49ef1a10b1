use Rattle.std.proofs.Common.{refl, true}
use Rattle.treefs_format.specs.declared.kind.Kind.TheVariants.{SymbolicLink}
use Rattle.tree_lines.specs.Values.{Put}
use Rattle.tree_changes.proofs.BegunCopies.{link_put, target_is}
use Rattle.tree_changes.proofs.copies.copy_link.Goals as goal

pub returns-clause-does : goal.returns-clause-does
returns-clause-does g c =
    let before = c.args.opened.now in
    let after = c.put.new.self in
    let copied = c.args.copied.now in
    let put : Put = record {
      directory = copied.place.folder;
      name = copied.place.name;
      kind = SymbolicLink;
      attributes = c.attributes_of.result;
      bytes = c.deref.result;
      replace = true;
      in_range = c.attributes_of.ensures.in_range;
    } in
    let old = g.S.Store.state_of before.session.store in
    let seen = target_is old before.session.volume copied.node.number c.in-Ok.target.items c.in-Ok.ensures in
    link_put (g.S.Store.types_of before.session.store) before.folder copied.node copied.place.folder copied.place.name.now old
    (g.S.Store.state_of after.session.store) before.session.volume after.session.volume put c.in-Ok.target.items seen
    (refl, refl, refl, c.attributes_of.ensures.rights, c.deref.ensures.value, refl) c.put.result c.put.ensures.does
