use Rattle.std.proofs.Common.{length, sym, subst}
use Rattle.xn_model.specs.Images.{block_of, IsSound}
use Rattle.templates.specs.Language.{types_of_image}
use Rattle.world.proofs.world.World.known.Goals as goal

pub mount_known-requires-clause-sound : goal.mount_known-requires-clause-sound
mount_known-requires-clause-sound g c =
    subst (λ bs. IsSound (types_of_image bs) (length bs) (block_of bs)) (sym c.in-Ok.ensures) c.requires.sound.blocks
