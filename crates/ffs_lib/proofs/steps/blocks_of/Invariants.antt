use Rattle.std.proofs.Common.{◌≡◌}
use Rattle.ffs_lib.proofs.Common.{blocks_of, direct_in}
use Rattle.ffs_model.specs.Library.{pointed}
use Rattle.ffs_lib.proofs.steps.blocks_of.Given as goal

abbrev pub invariant-loop-i : goal.invariant-loop-i
invariant-loop-i l = l.blocks.items ≡ blocks_of (pointed (direct_in l.inode) l.i 2)
