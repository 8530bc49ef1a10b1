use Rattle.std.proofs.Common.{◌≡◌, take}
use Rattle.xn_model.specs.Images.{joined}
use Rattle.world.proofs.running.Running.image_into.Given as goal

abbrev pub invariant-loop-block : goal.invariant-loop-block
invariant-loop-block g l = l.image.items ≡ joined (take l.block l.self.image)
