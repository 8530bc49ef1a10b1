use Rattle.std.proofs.Common.{◌∙◌}
use Rattle.world.proofs.Mounting.{known_fit, known_value, known_world, lanes_synced}
use Rattle.world.proofs.unmounted.UnmountedDisk.mount_known.Goals as goal

pub over-kernel-requires-clause-fit : goal.over-kernel-requires-clause-fit
over-kernel-requires-clause-fit g c =
    known_fit c.self.inside.lanes c.self.inside.tickets c.self.invariant c.args.self c.self.view_is c.requires.sound c.args.state c.requires.known

pub over-kernel-requires-clause-synced : goal.over-kernel-requires-clause-synced
over-kernel-requires-clause-synced g c = lanes_synced c.self.inside.lanes c.self.invariant.home

pub new-requires : goal.new-requires
new-requires g c =
    known_world c.self.inside.lanes c.self.inside.tickets c.self.invariant c.args.self c.self.view_is c.requires.sound c.args.state c.requires.known
    1 c.over-kernel.result c.over-kernel.ensures

pub returns : goal.returns
returns g c =
    c.new.ensures
    ∙ known_value c.self.inside.lanes c.self.inside.tickets c.self.invariant c.args.self c.self.view_is c.requires.sound c.args.state c.requires.known
    1 c.over-kernel.result c.over-kernel.ensures
