use Rattle.std.proofs.Common.{◌≡◌, [], Some, sym, subst}
use Rattle.std.proofs.lemmas.Bool.{eqb-true}
use Rattle.image_model.specs.Walk.{visit_sees}
use Rattle.templates.specs.Tables.{table_types}
use Rattle.templates.proofs.ForCallers.{tables_have_built_ins}
use Rattle.crash_check.proofs.Leaves.{leaf-sees}
use Rattle.crash_check.proofs.level.is_leaf.Goals as goal

pub returns-then-ty-eq-TEMPLATE_TYPE : goal.returns-then-ty-eq-TEMPLATE_TYPE
returns-then-ty-eq-TEMPLATE_TYPE c = λ is m short.
    let T = table_types c.args.table.now in
    let built = tables_have_built_ins c.args.table.now c.rules.ensures in
    subst (λ t. visit_sees T t m ≡ Some []) (sym (eqb-true c.args.ty 1 is)) (leaf-sees T 1 m (built.template_owns m) (built.template_size m) short)

pub returns-else-ty-eq-TEMPLATE_TYPE : goal.returns-else-ty-eq-TEMPLATE_TYPE
returns-else-ty-eq-TEMPLATE_TYPE c = λ is m short.
    let T = table_types c.args.table.now in
    let built = tables_have_built_ins c.args.table.now c.rules.ensures in
    subst (λ t. visit_sees T t m ≡ Some []) (sym (eqb-true c.args.ty 2 is)) (leaf-sees T 2 m (built.data_owns m) (built.data_size m) short)
