-- Steps of a world, by what is seen of it.
use Rattle.std.proofs.Common.{◌≡◌, subst}
use Rattle.xn_model.specs.Worlds.{World, Event, Reply, AfterCall}
use Rattle.world.specs.Worlds.{WorldValue, world_with}

pub seen : (inside now : WorldValue) → inside ≡ now → (event : Event) (reply : Reply) (after : World) → AfterCall (world_with inside) event reply after → AfterCall (world_with now) event reply after
seen inside now same event reply after step = subst (λ v. AfterCall (world_with v) event reply after) same step
