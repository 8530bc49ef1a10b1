use Rattle.std.proofs.Common.{◌≡◌}
use Rattle.ffs_lib.proofs.Common.{blocks_of}
use Rattle.ffs_model.specs.Library.{pointed, pointer_word}
use Rattle.ffs_lib.proofs.steps.blocks_in.Given as goal

abbrev pub invariant-loop-place : goal.invariant-loop-place
invariant-loop-place l = l.blocks.items ≡ blocks_of (pointed (pointer_word l.bytes) l.place 2)
