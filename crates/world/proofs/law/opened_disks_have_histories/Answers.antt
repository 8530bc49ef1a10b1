use Rattle.xn_model.specs.Images.{blocks_in}
use Rattle.world.proofs.Tellings.{opened_moment}
use Rattle.world.proofs.law.opened_disks_have_histories.Goals as goal

pub returns : goal.returns
returns c = λ image bytes sound. opened_moment (blocks_in image) sound.blocks
