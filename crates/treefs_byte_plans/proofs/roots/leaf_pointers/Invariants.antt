use Rattle.std.proofs.Common.{◌≡◌, ◌≤◌, ◌-◌, ◌++◌, length}
use Rattle.treefs_byte_plans.specs.Roots.{leaf_pointers}
use Rattle.treefs_lookup.specs.Readable.{readable}
use Rattle.treefs_byte_plans.proofs.roots.leaf_pointers.Given as goal

abbrev pub invariant-loop-leaf : goal.invariant-loop-leaf
invariant-loop-leaf g l =
    let content = readable (g.S.Store.state_of l.store) l.fs.number in
    record {
      few : length l.leaves.items ≤ l.leaf - l.keep;
      joined : leaf_pointers content l.inode l.keep ≡ l.leaves.items ++ leaf_pointers content l.inode l.leaf;
    }
