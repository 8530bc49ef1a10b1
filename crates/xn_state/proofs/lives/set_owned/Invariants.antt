use Rattle.std.proofs.Common.{◌≡◌, take}
use Rattle.xn_model.specs.Lives.{owned_after}
use Rattle.xn_state.proofs.lives.set_owned.Given as goal

abbrev pub invariant-loop-add : goal.invariant-loop-add
invariant-loop-add l = l.cache ≡ owned_after l.owner l.initial.cache (take l.add-index l.adds)
