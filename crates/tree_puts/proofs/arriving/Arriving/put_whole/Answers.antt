use Rattle.std.proofs.Common.{refl, true}
use Rattle.tree_lines.specs.Values.{Put}
use Rattle.tree_puts.proofs.Performed.{by_plan, put_done}
use Rattle.tree_puts.proofs.arriving.Arriving.put_whole.Goals as goal

pub returns-clause-does : goal.returns-clause-does
returns-clause-does g c =
    let before = c.args.volume.now in
    let after = c.put.new.self in
    let T = g.S.Store.types_of before.session.store in
    let old = g.S.Store.state_of before.session.store in
    let new = g.S.Store.state_of after.session.store in
    let put : Put = record {
      directory = c.args.goods.place.folder;
      name = c.args.goods.place.name;
      kind = c.args.kind;
      attributes = c.new_attributes-attributes.result;
      bytes = c.args.bytes;
      replace = true;
      in_range = c.new_attributes-attributes.ensures.range;
    } in
    by_plan (put_done T before.folder old new before.session.volume after.session.volume put c.put.result refl c.put.ensures.does)
    (λ actions so. (c.new_attributes-attributes.result, c.new_attributes-attributes.ensures.rights, so))
