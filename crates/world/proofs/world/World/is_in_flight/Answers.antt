use Rattle.std.proofs.Common.{◌∙◌, sym, ap, subst}
use Rattle.xn_kernel.specs.Kernels.{is_in_flight}
use Rattle.world.specs.Worlds.{WorldValue}
use Rattle.world.specs.WorldDisks.{disk_value, IsWorldDisk}
use Rattle.world.proofs.AtRest.{down_is_calm}
use Rattle.world.proofs.world.World.is_in_flight.Goals as goal

pub returns-in-Down-clause-flight : goal.returns-in-Down-clause-flight
returns-in-Down-clause-flight g c =
    let calm = down_is_calm c.in-Down.field-0 c.args.block (subst IsWorldDisk c.in-Down.is c.self.invariant) in
    sym calm ∙ ap (λ (v : WorldValue). is_in_flight v.state c.args.block) (ap disk_value (sym c.in-Down.is) ∙ c.self.view_is)
