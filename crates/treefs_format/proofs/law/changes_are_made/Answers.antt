use Rattle.treefs_format.proofs.Stated.{fields_made, fields_others}
use Rattle.treefs_format.proofs.law.changes_are_made.Goals as goal

pub returns-clause-fields : goal.returns-clause-fields
returns-clause-fields c = fields_made

pub returns-clause-others : goal.returns-clause-others
returns-clause-others c = fields_others
