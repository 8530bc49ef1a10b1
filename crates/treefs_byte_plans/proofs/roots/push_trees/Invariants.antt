use Rattle.std.proofs.Common.{◌≡◌, ◌++◌, map, take}
use Rattle.treefs_byte_plans.specs.Roots.{tree_patch}
use Rattle.treefs_byte_plans.proofs.roots.push_trees.Given as goal

abbrev pub invariant-loop-tree : goal.invariant-loop-tree
invariant-loop-tree l = l.patches.items ≡ l.fn.patches.items ++ map tree_patch (take l.tree-index l.trees)
