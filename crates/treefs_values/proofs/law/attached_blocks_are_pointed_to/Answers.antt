use Rattle.treefs_values.proofs.PointerSet.{pointer_attached}
use Rattle.treefs_values.proofs.law.attached_blocks_are_pointed_to.Goals as goal

pub returns : goal.returns
returns c = pointer_attached
