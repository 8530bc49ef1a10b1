use Rattle.std.proofs.Common.{◌≡◌, ◌∙◌, ap, arith}
use Rattle.durable_floor.specs.Rules.{zero_floor}
use Rattle.durable_floor.proofs.ForCallers.{zeros_at}
use Rattle.fault_runs.proofs.sharing.hub_of.Goals as goal

pub new-hub-requires-clause-below : goal.new-hub-requires-clause-below
new-hub-requires-clause-below g c =
    let same : c.publisher.inside.seat.me.0.seen ≡ zero_floor = ap (λ k. k.seen) (c.publisher.view_is ∙ c.requires.publisher) in
    λ fs. rw same (omega (arith, zeros_at 32 fs))
