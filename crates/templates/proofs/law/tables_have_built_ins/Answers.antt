use Rattle.templates.proofs.BuiltInTypes.{tables_have_built_ins}
use Rattle.templates.proofs.law.tables_have_built_ins.Goals as goal

pub returns : goal.returns
returns c = tables_have_built_ins
