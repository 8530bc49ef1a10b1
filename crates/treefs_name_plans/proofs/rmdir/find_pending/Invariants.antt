use Rattle.std.proofs.Common.{◌-◌, ◌+◌}
use Rattle.treefs_format.specs.Paths.{leaf_count}
use Rattle.treefs_name_plans.specs.Removals.{ArePendingTo}
use Rattle.treefs_name_plans.proofs.rmdir.find_pending.Given as goal

abbrev pub invariant-loop-bucket : goal.invariant-loop-bucket
invariant-loop-bucket g l = ArePendingTo (g.S.Store.state_of l.store) l.fs.number l.inode 0 l.blocks.items l.from

abbrev pub decreases-loop-bucket : goal.decreases-loop-bucket
decreases-loop-bucket g l = leaf_count + 1 - l.from
