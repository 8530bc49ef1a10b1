use Rattle.templates.proofs.OneSpelling.{blocks_are_templates}
use Rattle.templates.proofs.law.blocks_are_templates.Goals as goal

pub returns : goal.returns
returns c = blocks_are_templates
