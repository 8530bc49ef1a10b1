use Rattle.world.proofs.Formats.{fresh_world, never_faulty}
use Rattle.world.proofs.world.World.format.Goals as goal

pub returns-in-Ok : goal.returns-in-Ok
returns-in-Ok g c = (
  c.in_ok-image.ensures.0,
  fresh_world c.args.blocks c.args.templates.now c.in_ok-image.ensures.0 c.are_templates.ensures c.in_ok-image.image.items c.in_ok-image.ensures.1 _ c.in-Ok.ensures.ok.1,
)

pub want_of_memory-requires : goal.want_of_memory-requires
want_of_memory-requires g c =
    never_faulty c.args.blocks c.args.templates.now c.in_ok-image.ensures.0 c.are_templates.ensures c.in_ok-image.image.items c.in_ok-image.ensures.1 c.in-Err.fault
    c.in-Err.ensures.err
