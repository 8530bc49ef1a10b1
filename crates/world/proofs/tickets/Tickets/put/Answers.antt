use Rattle.std.proofs.Common.{◌≡◌, ◌∙◌, ◌+◌, ◌<◌, ◌≤◌, Some, length, slice_set, ap, arith}
use Rattle.world.specs.Disks.{all_places}
use Rattle.world.specs.Worlds.{Tickets}
use Rattle.world.proofs.Ticketing.{count_places, made_places, made_reaches, set_place}
use Rattle.world.proofs.tickets.Tickets.put.Goals as goal

pub returns : goal.returns
returns g c =
    let blocks = c.self.inside.blocks in
    let front = c.self.inside.front.items in
    let made = c.make_places.ensures.made in
    let all = count_places blocks front c.self.invariant.0 in
    let seen : length (all_places blocks front) ≡ length c.args.self.now = ap (λ (v : Tickets). length v) c.self.view_is in
    let asked = c.requires in
    let reaches = made_reaches front (c.args.block + 1) in
    let long = ap length made in
    let within : c.args.block < length c.make_places.new.front.items = omega arith in
    let fits : c.args.block + 1 ≤ blocks = omega arith in
    set_place blocks c.make_places.new.front.items c.args.block (Some c.args.ticket) within
    ∙ ap (λ (v : Tickets). slice_set v c.args.block (Some c.args.ticket)) (ap (all_places blocks) made ∙ (made_places blocks front (c.args.block + 1) fits ∙ c.self.view_is))
