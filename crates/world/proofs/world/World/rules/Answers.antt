use Rattle.std.proofs.Common.{◌∙◌, sym, ap, subst}
use Rattle.xn_model.specs.Rules.{Holds}
use Rattle.world.specs.Worlds.{WorldValue, world_with}
use Rattle.world.specs.WorldDisks.{disk_value, IsWorldDisk}
use Rattle.world.proofs.Crashes.{down_holds}
use Rattle.world.proofs.world.World.rules.Goals as goal

pub returns-in-Down : goal.returns-in-Down
returns-in-Down g c =
    let holds = down_holds c.in-Down.field-0 (subst IsWorldDisk c.in-Down.is c.self.invariant) in
    subst (λ (v : WorldValue). Holds (world_with v)) (ap disk_value (sym c.in-Down.is) ∙ c.self.view_is) holds
