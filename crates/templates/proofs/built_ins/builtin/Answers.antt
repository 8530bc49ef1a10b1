use Rattle.std.proofs.Common.{ap}
use Rattle.std.specs.Result.{is_ok}
use Rattle.templates.proofs.KnownPrograms.{root_code, leaf_code, root_built_in, leaf_built_in}
use Rattle.templates.proofs.built_ins.builtin.Goals as goal

pub known_template-requires-clause-right : goal.known_template-requires-clause-right
known_template-requires-clause-right c = ap is_ok root_code

pub known_template-requires-else-ty-eq0-clause-right :
    goal.known_template-requires-else-ty-eq0-clause-right
known_template-requires-else-ty-eq0-clause-right c = ap is_ok leaf_code

pub returns-then-ty-eq0 : goal.returns-then-ty-eq0
returns-then-ty-eq0 c = root_built_in c.known_template.result c.args.ty c.if-ty-eq0.true c.known_template.ensures

pub returns-else-ty-eq0 : goal.returns-else-ty-eq0
returns-else-ty-eq0 c = leaf_built_in c.known_template-else-ty-eq0.result c.args.ty c.if-ty-eq0.false c.known_template-else-ty-eq0.ensures
