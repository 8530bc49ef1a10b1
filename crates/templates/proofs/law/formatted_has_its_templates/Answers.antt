use Rattle.templates.proofs.FreshDisks.{formatted_has_its_templates}
use Rattle.templates.proofs.law.formatted_has_its_templates.Goals as goal

pub returns : goal.returns
returns c = formatted_has_its_templates
