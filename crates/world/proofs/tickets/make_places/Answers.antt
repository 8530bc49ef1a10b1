use Rattle.std.proofs.Common.{◌≡◌, ◌∙◌, ◌-◌, ◌++◌, None, length, replicate, ap, arith}
use Rattle.world.specs.Worlds.{Tickets}
use Rattle.world.proofs.tickets.make_places.Goals as goal

pub returns-clause-made : goal.returns-clause-made
returns-clause-made g c =
    let front : Tickets = c.args.front.now.items in
    let before = c.loop-place.invariant in
    let same : c.loop-place._place - length front ≡ c.args.count - length front = omega arith in
    before.0 ∙ ap (λ n. front ++ replicate n None) same
