use Rattle.std.proofs.Common.{◌≡◌, ◌++◌, take}
use Rattle.treefs_byte_plans.specs.Roots.{blocks_of}
use Rattle.treefs_byte_plans.proofs.roots.push_blocks.Given as goal

abbrev pub invariant-loop-pointer : goal.invariant-loop-pointer
invariant-loop-pointer l = l.blocks.items ≡ l.fn.blocks.items ++ blocks_of (take l.pointer-index l.pointers)
