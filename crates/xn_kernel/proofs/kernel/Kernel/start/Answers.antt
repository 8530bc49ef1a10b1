use Rattle.std.proofs.Common.{sym, subst}
use Rattle.xn_model.specs.Images.{blocks_in}
use Rattle.xn_model.specs.Lanes.{FitLives}
use Rattle.xn_model.proofs.ForCallers.{lanes_mounted}
use Rattle.xn_model.specs.Lives.{StoreState}
use Rattle.xn_state.specs.Mounts.{image_types, lives_in}
use Rattle.xn_kernel.proofs.kernel.Kernel.start.Goals as goal

pub invariant_of-result : goal.invariant_of-result
invariant_of-result g c = record {
  rules = c.in-Ok.ensures.rules;
  fit = subst (λ (state : StoreState). FitLives g.L.Lane.bytes_of c.args.lanes state.lives) (sym c.in-Ok.ensures.value)
      (lanes_mounted g.L.Lane.bytes_of c.args.lanes (image_types c.args.image.now) (blocks_in c.args.image.now) (lives_in c.args.image.now c.args.found.now) c.requires.found.recovered c.requires.held);
  synced = c.requires.synced;
}
