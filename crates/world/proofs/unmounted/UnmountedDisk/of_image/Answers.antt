use Rattle.std.proofs.Common.{◌∙◌, None, replicate, ap}
use Rattle.world.proofs.Openings.{opened_disk, opened_image}
use Rattle.world.proofs.unmounted.UnmountedDisk.of_image.Goals as goal

pub new-requires-2 : goal.new-requires-2
new-requires-2 g c = opened_disk c.args.image.items c.requires.whole c.in_ok-lanes.lanes c.in_ok-lanes.ensures c.in_ok-tickets.tickets (c.in_ok-tickets.ensures ∙ ap (λ n. replicate n None) c.blocks-2.ensures.blocks)

pub returns : goal.returns
returns g c =
    c.new-2.ensures
    ∙ opened_image c.args.image.items c.requires.whole c.in_ok-lanes.lanes c.in_ok-lanes.ensures c.in_ok-tickets.tickets (c.in_ok-tickets.ensures ∙ ap (λ n. replicate n None) c.blocks-2.ensures.blocks)
