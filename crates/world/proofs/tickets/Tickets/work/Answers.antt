use Rattle.std.proofs.Common.{◌∙◌, None, Some, slice_set, arith, refl, subst}
use Rattle.world.specs.Disks.{all_places}
use Rattle.world.specs.Works.{IsWorked}
use Rattle.world.specs.Worlds.{Tickets}
use Rattle.world.proofs.Places.{left_empty, place_is}
use Rattle.world.proofs.Ticketing.{worked_places}
use Rattle.world.proofs.tickets.Tickets.work.Goals as goal
use Rattle.world.proofs.tickets.Tickets.work.Goals.{in-None, in-Some}

pub returns : goal.returns
returns g c =
    let blocks = c.self.inside.blocks in
    let front = c.self.inside.front.items in
    let b = c.args.block in
    elim c.match-index_mut.branch [
      | in-None w ↦
          let empty = left_empty front b c.index_mut.result.now (omega arith) c.index_mut.ensures.value w.in-None.is in
          rw (w.result-is, w.self-inside-is)
          (subst (λ (v : Tickets). IsWorked c.args.work v b None (all_places blocks (slice_set front b c.index_mut.result.now))) c.self.view_is
          (worked_places blocks front c.args.work b None (slice_set front b c.index_mut.result.now) empty))
      | in-Some w ↦
          let here = place_is front b c.index_mut.result.now (omega arith) c.index_mut.ensures.value in
          let after = slice_set front b (Some w.work.new.self) in
          rw (w.result-is, w.self-inside-is)
          (subst (λ (v : Tickets). IsWorked c.args.work v b (Some w.work.result) (all_places blocks after)) c.self.view_is
          (worked_places blocks front c.args.work b (Some w.work.result) after (w.in-Some.ticket, w.work.new.self, here ∙ w.in-Some.is, w.work.ensures, refl)))
    ]
