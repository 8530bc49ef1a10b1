use Rattle.std.proofs.Common.{◌≡◌, take}
use Rattle.xn_model.specs.Lives.{dropped_after}
use Rattle.xn_state.proofs.lives.set_dropped.Given as goal

abbrev pub invariant-loop-block : goal.invariant-loop-block
invariant-loop-block l = l.cache ≡ dropped_after l.owner l.initial.cache (take l.block-index l.drops)
