use Rattle.std.proofs.Common.{◌∙◌, ap, sym, subst}
use Rattle.xn_model.specs.Worlds as model
use Rattle.xn_model.proofs.ForCallers.{crash_sound}
use Rattle.world.specs.Worlds.{world_with, IsSoundDisk}
use Rattle.world.specs.WorldDisks.{disk_value, IsWorldDisk}
use Rattle.world.proofs.Crashes.{rests_left}
use Rattle.world.proofs.world.WorldDisk.left.Goals as goal

pub returns-in-Up-clause-sound : goal.returns-in-Up-clause-sound
returns-in-Up-clause-sound g c = subst IsSoundDisk (sym c.unmount.ensures) (crash_sound (world_with c.in-Up.running) c.rules.ensures c.args.kept.now)

pub returns-in-Down-clause-image : goal.returns-in-Down-clause-image
returns-in-Down-clause-image g c =
    sym (rests_left c.in-Down.disk c.args.kept.now) ∙ ap (λ d. model.left (world_with (disk_value d)) c.args.kept.now) (sym c.in-Down.is)

pub returns-in-Down-clause-sound : goal.returns-in-Down-clause-sound
returns-in-Down-clause-sound g c = subst IsWorldDisk c.in-Down.is c.requires
