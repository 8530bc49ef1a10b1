use Rattle.std.proofs.Common.{arith, drop, length-drop}
use Rattle.std.proofs.lemmas.List.{take_all}
use Rattle.treefs_format.proofs.inodes.content.Goals as goal

pub returns-clause-content : goal.returns-clause-content
returns-clause-content c = let long = length-drop 128 c.args.block.now in take_all 384 (drop 128 c.args.block.now) (omega arith)
