use Rattle.std.proofs.Common.{◌∙◌, ap, length, List, Option, None, replicate, refl, sym}
use Rattle.disk.specs.Mem.{MemoryLane}
use Rattle.xn_model.specs.Images.{blocks_in}
use Rattle.xn_kernel.specs.Kernels.{KernelValue, TicketValue}
use Rattle.crash_check.specs.Mounts.{kernel_of}
use Rattle.world.proofs.ForCallers.{held_image, opened_disk, opened_image}
use Rattle.world.proofs.Mounting.{lanes_synced}
use Rattle.volume_pair.proofs.kernels.mounted.Goals as goal

pub mount_image-requires-clause-held : goal.mount_image-requires-clause-held
mount_image-requires-clause-held g c κs h =
    let tickets = replicate {A = Option (TicketValue MemoryLane)} (length _) None in
    held_image _ tickets (opened_disk _ c.requires.whole _ c.in_ok-lanes.ensures tickets refl) _ (opened_image _ c.requires.whole _ c.in_ok-lanes.ensures tickets refl)

pub mount_image-requires-clause-synced : goal.mount_image-requires-clause-synced
mount_image-requires-clause-synced g c κs h =
    let tickets = replicate {A = Option (TicketValue MemoryLane)} (length _) None in
    lanes_synced _ (opened_disk c.args.image.now c.requires.whole _ c.in_ok-lanes.ensures tickets refl).home

pub returns-in-Ok : goal.returns-in-Ok
returns-in-Ok g c =
    let value = c.in-Ok.ensures.value in
    value ∙ ap (λ (lanes : List (Option MemoryLane)). kernel_of 1 lanes (blocks_in c.args.image.now)) (sym (ap (λ (k : KernelValue MemoryLane). k.lanes) value))
