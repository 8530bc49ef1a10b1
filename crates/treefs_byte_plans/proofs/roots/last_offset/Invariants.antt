use Rattle.std.proofs.Common.{◌≡◌, drop}
use Rattle.treefs_byte_plans.specs.Roots.{last_offset}
use Rattle.treefs_byte_plans.proofs.roots.last_offset.Given as goal

abbrev pub invariant-loop-pointer : goal.invariant-loop-pointer
invariant-loop-pointer l = last_offset l.fn.offset l.pointers ≡ last_offset l.last (drop l.pointer-index l.pointers)
