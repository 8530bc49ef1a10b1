use Rattle.treefs_lookup.specs.Readable.{readable}
use Rattle.treefs_lookup.proofs.Walks.{AreBlocks}
use Rattle.treefs_lookup.proofs.paths.walk_blocks.Given as goal

abbrev pub invariant-loop-left : goal.invariant-loop-left
invariant-loop-left g l = AreBlocks (readable (g.S.Store.state_of l.store) l.fs.number) l.top l.offsets l.left l.block l.blocks.items

abbrev pub decreases-loop-left : goal.decreases-loop-left
decreases-loop-left g l = l.left
