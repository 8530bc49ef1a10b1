use Rattle.std.proofs.Common.{◌≡◌, ◌∙◌, ◌<◌, None, length, slice_set, sym, ap, subst, arith}
use Rattle.world.specs.Disks.{all_places, ticket_at}
use Rattle.world.specs.Worlds.{Tickets}
use Rattle.world.proofs.Places.{place_is, set_still}
use Rattle.world.proofs.Ticketing.{none_behind, place_behind, set_place}
use Rattle.world.proofs.tickets.Tickets.take.Goals as goal

pub returns-then-block-len-clause-rest : goal.returns-then-block-len-clause-rest
returns-then-block-len-clause-rest g c =
    let blocks = c.self.inside.blocks in
    let front = c.self.inside.front.items in
    let none = place_behind blocks front c.args.block ∙ none_behind front c.args.block (omega arith) in
    subst (λ (v : Tickets). v ≡ slice_set v c.args.block None) c.self.view_is (sym (set_still (all_places blocks front) c.args.block None none))

pub returns-clause-ticket : goal.returns-clause-ticket
returns-clause-ticket g c =
    let blocks = c.self.inside.blocks in
    let front = c.self.inside.front.items in
    let within : c.args.block < length front = omega arith in
    c.take.ensures.value ∙ (sym (place_is front c.args.block c.index_mut.result.now within c.index_mut.ensures.value)
    ∙ (sym (place_behind blocks front c.args.block) ∙ ap (λ (v : Tickets). ticket_at v c.args.block) c.self.view_is))

pub returns-clause-rest : goal.returns-clause-rest
returns-clause-rest g c =
    let blocks = c.self.inside.blocks in
    let front = c.self.inside.front.items in
    let within : c.args.block < length front = omega arith in
    ap (λ o. all_places blocks (slice_set front c.args.block o)) c.take.ensures.after
    ∙ (set_place blocks front c.args.block None within ∙ ap (λ (v : Tickets). slice_set v c.args.block None) c.self.view_is)
