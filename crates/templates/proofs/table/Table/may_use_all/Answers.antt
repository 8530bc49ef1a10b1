use Rattle.std.proofs.Common.{◌∙◌, sym}
use Rattle.std.proofs.lemmas.Bool.{eqb-true}
use Rattle.templates.proofs.TablePlaces.{leaf_size, size_is}
use Rattle.templates.proofs.table.Table.may_use_all.Goals as goal

pub returns-then-is_leaf : goal.returns-then-is_leaf
returns-then-is_leaf c = λ all block. sym (leaf_size c.args.self.now c.args.ty (c.is_leaf.ensures.0 c.if-is_leaf.true) block)

pub returns-in-Some-constant_size : goal.returns-in-Some-constant_size
returns-in-Some-constant_size c = λ all block.
    sym (size_is c.args.self.now c.args.ty c.in-Some.template.now (sym c.in-Some.ensures.value) c.size.result.now block c.in-Some-constant_size.size c.size.ensures.value
    (c.in-Some-constant_size.ensures.answer block)) ∙ eqb-true c.in-Some-constant_size.size 512 all
