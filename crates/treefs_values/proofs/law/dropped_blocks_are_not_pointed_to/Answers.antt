use Rattle.treefs_values.proofs.Cleared.{cleared_whole, pointers_cleared}
use Rattle.treefs_values.proofs.law.dropped_blocks_are_not_pointed_to.Goals as goal

pub returns : goal.returns
returns c = λ node inode type content holder places blocks behind other some whole over led apart. (
  pointers_cleared node inode type content holder places blocks behind other some whole over led apart,
  cleared_whole node inode type content holder places blocks behind other some whole over led apart,
)
