use Rattle.std.proofs.Common.{◌-◌, ◌≢◌, ◌∙◌, ap, get_or, None, arith}
use Rattle.templates.specs.Tables.{TableValue}
use Rattle.templates.proofs.TablePlaces.{at_root, at_leaf, at_place}
use Rattle.templates.proofs.table.Table.get.Goals as goal

pub returns-in-0-clause-value : goal.returns-in-0-clause-value
returns-in-0-clause-value c = at_root c.args.self.now c.args.ty c.self.inside.root c.self.invariant.1 c.in-0.is

pub returns-in-1-clause-value : goal.returns-in-1-clause-value
returns-in-1-clause-value c =
    let ne : c.args.ty ≢ 0 = omega arith in
    at_leaf c.args.self.now c.args.ty c.self.inside.leaf c.self.invariant.2 ne (omega arith)

pub returns-in-Some-clause-value : goal.returns-in-Some-clause-value
returns-in-Some-clause-value c =
    c.as_ref.ensures.value ∙ (c.in-Some.ensures.lookup.3.1 None
    ∙ (ap (λ (table : TableValue). get_or table (c.args.ty - 3) None) (c.deref.ensures.value ∙ c.self.view_is) ∙ at_place c.args.self.now c.args.ty (omega arith)))

pub returns-in-None-clause-value : goal.returns-in-None-clause-value
returns-in-None-clause-value c =
    c.in-None.ensures.lookup.4 (omega arith) None
    ∙ (ap (λ (table : TableValue). get_or table (c.args.ty - 3) None) (c.deref.ensures.value ∙ c.self.view_is) ∙ at_place c.args.self.now c.args.ty (omega arith))
