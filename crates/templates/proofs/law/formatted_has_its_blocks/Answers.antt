use Rattle.templates.proofs.FreshDisks.{formatted_has_its_blocks}
use Rattle.templates.proofs.law.formatted_has_its_blocks.Goals as goal

pub returns : goal.returns
returns c = formatted_has_its_blocks
