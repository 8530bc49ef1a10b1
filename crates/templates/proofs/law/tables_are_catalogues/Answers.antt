use Rattle.templates.proofs.Meanings.{tables_are_catalogues}
use Rattle.templates.proofs.law.tables_are_catalogues.Goals as goal

pub returns : goal.returns
returns c = tables_are_catalogues
