use Rattle.std.proofs.Common.{min, ◌≡◌, ◌∙◌, ap, refl, inl, inr, arith, ◌≤◌}
use Rattle.std.specs.Prelude.{is_some}
use Rattle.std.specs.List.{list_any}
use Rattle.xn_model.specs.Lives.{StoreState, alive_and}
use Rattle.xn_model.specs.Worlds.{all_pending}
use Rattle.xn_model.proofs.ForCallers.{none_pending}
use Rattle.xn_state.specs.States.{own_types}
use Rattle.xn_kernel.specs.Kernels.{KernelValue}
use Rattle.xn_kernel.proofs.Draining.{asked, idle_from}
use Rattle.xn_kernel.proofs.Flushing.{none_begun, same_flights, less_pending, is_whole, waves_more, still_idle}
use Rattle.xn_kernel.proofs.WaveWrites.{still_serves}
use Rattle.xn_kernel.proofs.kernel.Kernel.flush_waves.Goals as goal

pub returns-in_default-clause-err : goal.returns-in_default-clause-err
returns-in_default-clause-err g c =
    let idle = idle_from c.args.self.now.state.lives (asked (λ s. list_any (alive_and (λ l. is_some l.begun)) s.lives) _ _ _ _ c.state.ensures c.is_any_in_flight.ensures c.if-is_any_in_flight.false) in
    inr (idle, inl (refl, c.new-in_default.ensures.items, refl, refl))

pub loop-waves-init : goal.loop-waves-init
loop-waves-init g c =
    let idle = idle_from c.args.self.now.state.lives (asked (λ s. list_any (alive_and (λ l. is_some l.begun)) s.lives) _ _ _ _ c.state.ensures c.is_any_in_flight.ensures c.if-is_any_in_flight.false) in
    record {
      done = refl;
      was_idle = idle;
      idle = idle;
      few = omega arith;
      empty = c.in-Ok.ensures.len;
      room = c.in-Ok.ensures.capacity;
    }

pub wave-end-requires-clause-serves : goal.wave-end-requires-clause-serves
wave-end-requires-clause-serves g c =
    let few = c.loop-waves.invariant.few in
    still_serves (all_pending c.args.self.now.state.lives) (all_pending c.loop-waves.self.state.lives) _ (c.min-room.ensures ∙ ap (λ p. min 4096 p) (c.all_pending.ensures ∙ ap (λ (s : StoreState). all_pending s.lives) c.state-2.ensures)) (omega (arith, few))

pub returns-then-end-eq0-clause-done : goal.returns-then-end-eq0-clause-done
returns-then-end-eq0-clause-done g c early =
    let old = c.loop-waves.self in
    let none = none_begun g.L.Lane.bytes_of g.L.Lane.faults_of g.L.Lane.write_gives g.L.Lane.sync_gives g.L.Lane.read_gives c.wave-end.result.blocks c.wave-end.result.durable old c.wave-end.new.self c.wave-end.new.tickets.items c.if-end-eq0.true c.wave-end.ensures.wave in
    ap (λ (k : KernelValue g.row.L.Denot). all_pending k.state.lives) none.0 ∙ none_pending (own_types old.state) old.state c.keeps_rules.ensures.rules c.loop-waves.invariant.idle none.1

pub loop-waves-preserved : goal.loop-waves-preserved
loop-waves-preserved g c =
    let old = c.loop-waves.self in
    let new = c.wave-end.new.self in
    let after = c.wave-end.new.tickets.items in
    let before = c.loop-waves.invariant in
    let blocks = c.wave-end.result.blocks in
    let durable = c.wave-end.result.durable in
    let within = c.wave-end.ensures.durable in
    let all : durable ≡ blocks = omega (arith, within, c.if-end.false) in
    let some : 1 ≤ blocks = omega (arith, c.if-end-eq0.false) in
    let rules = c.keeps_rules.ensures.rules in
    let wave = c.wave-end.ensures.wave in
    let whole = is_whole g.L.Lane.bytes_of g.L.Lane.faults_of g.L.Lane.write_gives g.L.Lane.sync_gives g.L.Lane.read_gives blocks durable old new after rules wave all some in
    let same = same_flights g.L.Lane.bytes_of g.L.Lane.faults_of g.L.Lane.write_gives g.L.Lane.sync_gives g.L.Lane.read_gives blocks durable old new after rules wave all some in
    let less = less_pending g.L.Lane.bytes_of g.L.Lane.faults_of g.L.Lane.write_gives g.L.Lane.sync_gives g.L.Lane.read_gives blocks durable old new after rules wave all some in
    let few = before.few in
    let long = c.wave-end.ensures.length in
    let capacity = c.wave-end.ensures.capacity in
    let room = before.room in
    record {
      done = waves_more g.L.Lane.bytes_of g.L.Lane.faults_of g.L.Lane.write_gives g.L.Lane.sync_gives g.L.Lane.read_gives c.loop-waves.waves c.args.self.now old new before.done whole;
      was_idle = before.was_idle;
      idle = still_idle old.state.lives new.state.lives before.idle same;
      few = omega (arith, few, less);
      empty = omega (arith, long, all);
      room = omega (arith, room, capacity);
    }
