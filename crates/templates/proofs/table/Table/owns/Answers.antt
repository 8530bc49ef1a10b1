use Rattle.std.proofs.Common.{map, ◌∙◌, ap, sym}
use Rattle.templates.specs.Meaning.{numbers_of_pair}
use Rattle.templates.proofs.TablePlaces.{leaf_owned, not_absent, owned_is}
use Rattle.templates.proofs.table.Table.owns.Goals as goal

pub unreachable-requires : goal.unreachable-requires
unreachable-requires c = not_absent c.args.self.now c.args.ty c.requires (sym c.in-None.ensures.value)

pub returns : goal.returns
returns c = owned_is c.args.self.now c.args.ty c.in-Some.template.now (sym c.in-Some.ensures.value) c.owns.result.now c.args.block.now
    c.owns-in-Some.new.out.items c.owns.ensures.value c.owns-in-Some.ensures.pairs

pub returns-then-is_leaf : goal.returns-then-is_leaf
returns-then-is_leaf c = ap (map numbers_of_pair) c.clear.ensures ∙ leaf_owned c.args.self.now c.args.ty (c.is_leaf.ensures.0 c.if-is_leaf.true) c.args.block.now
