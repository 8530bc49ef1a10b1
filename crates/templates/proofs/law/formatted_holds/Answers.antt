use Rattle.templates.proofs.FreshDisks.{formatted_holds}
use Rattle.templates.proofs.law.formatted_holds.Goals as goal

pub returns : goal.returns
returns c = formatted_holds
