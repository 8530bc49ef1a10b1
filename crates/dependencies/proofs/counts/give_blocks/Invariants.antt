use Rattle.std.proofs.Common.{◌≡◌, take}
use Rattle.dependencies.specs.Counts.{given}
use Rattle.dependencies.proofs.counts.give_blocks.Given as goal

abbrev pub invariant-loop-block : goal.invariant-loop-block
invariant-loop-block l = l.free ≡ given l.initial.free (take l.block-index l.blocks)
