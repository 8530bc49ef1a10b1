use Rattle.std.proofs.Common.{◌≡◌, drop}
use Rattle.treefs.specs.Reaping.{last_offset}
use Rattle.treefs.proofs.reaping.last_offset.Given as goal

abbrev pub invariant-loop-inode : goal.invariant-loop-inode
invariant-loop-inode l = last_offset 0 l.freed ≡ last_offset l.last (drop l.inode-index l.freed)
