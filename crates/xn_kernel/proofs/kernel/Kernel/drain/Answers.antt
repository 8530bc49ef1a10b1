use Rattle.std.proofs.Common.{refl, arith}
use Rattle.std.specs.Prelude.{is_some}
use Rattle.std.specs.List.{list_any}
use Rattle.xn_model.specs.Calls.{pick_of}
use Rattle.xn_model.specs.Lives.{alive_and}
use Rattle.xn_model.proofs.ForCallers.{none_pending}
use Rattle.xn_state.specs.States.{own_types}
use Rattle.xn_kernel.proofs.Draining.{asked, idle_from, rounds_more, round_ends}
use Rattle.xn_kernel.proofs.kernel.Kernel.drain.Goals as goal

pub loop-writes-init : goal.loop-writes-init
loop-writes-init g c =
    let idle = idle_from c.args.self.now.state.lives (asked (λ s. list_any (alive_and (λ l. is_some l.begun)) s.lives) _ _ _ _ c.state.ensures c.is_any_in_flight.ensures c.if-is_any_in_flight.false) in
    (refl, idle, idle, omega arith)

pub returns-in_default-clause-done : goal.returns-in_default-clause-done
returns-in_default-clause-done g c =
    let state = c.loop-writes.self.state in
    none_pending (own_types state) state c.keeps_rules.ensures.rules c.loop-writes.invariant.2 (asked pick_of _ _ _ _ c.state-in-loop-writes.ensures c.pick.ensures c.in_default.is)

pub loop-writes-preserved : goal.loop-writes-preserved
loop-writes-preserved g c =
    let left = round_ends g.L.Lane.bytes_of g.L.Lane.crash_leaves g.L.Lane.faults_of g.L.Lane.write_gives g.L.Lane.sync_gives g.L.Lane.read_gives c.loop-writes.self c.round.new.self c.keeps_rules.ensures c.loop-writes.invariant.2 c.in_default-round.ensures.ok in
    let few = c.loop-writes.invariant.3 in
    let less = left.1 in (
      rounds_more g.L.Lane.bytes_of g.L.Lane.crash_leaves g.L.Lane.faults_of g.L.Lane.write_gives g.L.Lane.sync_gives g.L.Lane.read_gives c.loop-writes.writes c.args.self.now c.loop-writes.self c.round.new.self c.loop-writes.invariant.0 c.in_default-round.ensures.ok,
      c.loop-writes.invariant.1,
      left.0,
      omega (arith, few, less),
    )
