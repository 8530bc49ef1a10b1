use Rattle.std.proofs.Common.{rules}
use Rattle.xn_model.specs.Root.{pointer}
use Rattle.templates.proofs.root.pointer.Goals as goal

pub returns : goal.returns
unfolding pointer
returns c = search rules
