use Rattle.std.proofs.Common.{◌∙◌, sym, ap, subst}
use Rattle.world.specs.Worlds.{WorldValue, is_any_in_flight}
use Rattle.world.specs.WorldDisks.{disk_value, IsWorldDisk}
use Rattle.world.proofs.AtRest.{down_is_idle}
use Rattle.world.proofs.world.World.is_any_in_flight.Goals as goal

pub returns-in-Down : goal.returns-in-Down
returns-in-Down g c =
    let calm = down_is_idle c.in-Down.field-0 (subst IsWorldDisk c.in-Down.is c.self.invariant) in
    sym calm ∙ ap (λ (v : WorldValue). is_any_in_flight v.state) (ap disk_value (sym c.in-Down.is) ∙ c.self.view_is)
