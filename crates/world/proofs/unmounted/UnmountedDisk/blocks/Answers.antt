use Rattle.std.proofs.Common.{◌∙◌, length, sym, ap}
use Rattle.world.proofs.Images.{length-image_of}
use Rattle.world.proofs.unmounted.UnmountedDisk.blocks.Goals as goal

pub returns : goal.returns
returns g c = c.blocks-2.ensures.blocks ∙ (sym (length-image_of c.self.inside.lanes c.self.inside.tickets) ∙ ap length c.self.view_is)
