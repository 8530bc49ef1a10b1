use Rattle.treefs_mending.proofs.Whole.{walk_is_whole}
use Rattle.treefs_mending.proofs.law.walks_are_whole.Goals as goal

pub returns : goal.returns
returns c = walk_is_whole
