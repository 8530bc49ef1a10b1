use Rattle.templates.proofs.FreshDisks.{formatted_is_found}
use Rattle.templates.proofs.law.formatted_is_found.Goals as goal

pub returns : goal.returns
returns c = formatted_is_found
