use Rattle.std.proofs.Common.{arith}
use Rattle.std.proofs.lemmas.Grind.{common_steps}
use Rattle.xn_model.specs.Root.{with_slot}
use Rattle.templates.proofs.root.with_root_slot.Goals as goal

pub returns : goal.returns
unfolding with_slot
returns c = grind (arith, common_steps)
