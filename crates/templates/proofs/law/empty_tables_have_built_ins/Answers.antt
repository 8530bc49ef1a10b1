use Rattle.templates.proofs.BuiltInTypes.{empty_tables_have_built_ins}
use Rattle.templates.proofs.law.empty_tables_have_built_ins.Goals as goal

pub returns : goal.returns
returns c = empty_tables_have_built_ins
