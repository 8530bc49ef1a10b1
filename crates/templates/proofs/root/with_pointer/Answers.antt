use Rattle.std.proofs.Common.{arith}
use Rattle.std.proofs.lemmas.Grind.{common_steps}
use Rattle.xn_model.specs.Root.{with_pointer}
use Rattle.templates.proofs.root.with_pointer.Goals as goal

pub returns : goal.returns
unfolding with_pointer
returns c = grind (arith, common_steps)
