use Rattle.treefs_values.proofs.EmptyBlocks.{empty_attached}
use Rattle.treefs_values.proofs.law.empty_blocks_change_no_file.Goals as goal

pub returns : goal.returns
returns c = empty_attached
