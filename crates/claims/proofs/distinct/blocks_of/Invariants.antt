use Rattle.std.proofs.Common.{◌≡◌, take, length}
use Rattle.xn_model.specs.Lists.{blocks_of}
use Rattle.claims.proofs.distinct.blocks_of.Given as goal

abbrev pub invariant-loop-pair : goal.invariant-loop-pair
invariant-loop-pair l = (l.blocks.items ≡ blocks_of (take l.pair-index l.pairs)) × (length l.blocks.items ≡ l.pair-index)
