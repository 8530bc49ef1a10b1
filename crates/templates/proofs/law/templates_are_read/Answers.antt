use Rattle.templates.proofs.OneSpelling.{templates_are_read}
use Rattle.templates.proofs.law.templates_are_read.Goals as goal

pub returns : goal.returns
returns c = templates_are_read
