use Rattle.std.proofs.Common.{sym}
use Rattle.templates.proofs.TablePlaces.{leaf_size, not_absent, size_is}
use Rattle.templates.proofs.table.Table.size.Goals as goal

pub unreachable-requires : goal.unreachable-requires
unreachable-requires c = not_absent c.args.self.now c.args.ty c.requires (sym c.in-None.ensures.value)

pub returns-clause-value : goal.returns-clause-value
returns-clause-value c = size_is c.args.self.now c.args.ty c.in-Some.template.now (sym c.in-Some.ensures.value) c.size.result.now c.args.block.now
    c.size-in-Some.result c.size.ensures.value c.size-in-Some.ensures.answer

pub returns-then-is_leaf-clause-value : goal.returns-then-is_leaf-clause-value
returns-then-is_leaf-clause-value c = leaf_size c.args.self.now c.args.ty (c.is_leaf.ensures.0 c.if-is_leaf.true) c.args.block.now
