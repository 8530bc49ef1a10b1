use Rattle.std.proofs.Common.{◌≢◌, ℕ, ◌<◌, ◌≤◌}
use Rattle.treefs_lookup.specs.Readable.{readable}
use Rattle.treefs_model.specs.Reading.{leaf_block}
use Rattle.tree_lines.proofs.stretches.last_from.Given as goal

abbrev pub invariant-loop-leaf : goal.invariant-loop-leaf
invariant-loop-leaf g l =
    (leaf : ℕ) → l.next ≤ leaf → leaf < l.leaf → leaf_block (readable (g.S.Store.state_of l.store) l.fs.number) l.inode leaf ≢ 0
