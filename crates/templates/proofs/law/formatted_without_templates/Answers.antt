use Rattle.templates.proofs.FreshDisks.{formatted_without_templates}
use Rattle.templates.proofs.law.formatted_without_templates.Goals as goal

pub returns : goal.returns
returns c = formatted_without_templates
