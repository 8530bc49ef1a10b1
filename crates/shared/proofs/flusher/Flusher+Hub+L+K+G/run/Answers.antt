use Rattle.std.proofs.Common.{◌∙◌, Some, None, sym, refl, suc}
use Rattle.store_types.specs.declared.refusal.Refusal.TheVariants.{Device}
use Rattle.shared.proofs.Turns.{turn_more, ends_at_failed_write, ends_so}
use Rattle.shared.proofs.flusher.Flusher+Hub+L+K+G.run.Goals as goal

pub returns-then-is_err-clause-ends : goal.returns-then-is_err-clause-ends
returns-then-is_err-clause-ends g c =
    let end = c.flush_end-then-is_err.result in
    let fails = ends_at_failed_write g.L.Lane.bytes_of g.L.Lane.crash_leaves g.L.Lane.faults_of g.L.Lane.write_gives g.L.Lane.sync_gives g.L.Lane.read_gives
    c.loop.invariant.0 c.loop.writes c.counted-writes.result c.in-Ok.durable c.in-Ok.written (sym c.is_err.ensures.value ∙ c.if-is_err.true)
    c.loop.invariant.1 c.in-Ok.ensures.ok c.counted-writes.ensures in
    ends_so g.L.Lane.bytes_of g.L.Lane.crash_leaves g.L.Lane.faults_of g.L.Lane.write_gives g.L.Lane.sync_gives g.L.Lane.read_gives
    end.writes c.counted-writes.result end.fault (Some Device) end.ticket None c.flush_end-then-is_err.ensures (refl, fails)

pub loop-preserved : goal.loop-preserved
loop-preserved g c =
    let turns = c.loop.invariant.0 in (
      suc turns,
      turn_more g.L.Lane.bytes_of g.L.Lane.crash_leaves g.L.Lane.faults_of g.L.Lane.write_gives g.L.Lane.sync_gives g.L.Lane.read_gives
          turns c.loop.writes c.counted-writes.result c.in-Ok.durable c.in-Ok.written (sym c.is_err.ensures.value ∙ c.if-is_err.false)
          c.loop.invariant.1 c.in-Ok.ensures.ok c.counted-writes.ensures,
    )
