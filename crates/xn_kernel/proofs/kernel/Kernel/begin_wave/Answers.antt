use Rattle.std.proofs.Common.{inr, arith}
use Rattle.xn_model.specs.Calls.{begun_of, pick_of}
use Rattle.xn_model.proofs.ForCallers.{picked_begins}
use Rattle.xn_kernel.proofs.Draining.{asked, never_err, wrote}
use Rattle.xn_kernel.proofs.WaveWrites.{writes_more}
use Rattle.xn_kernel.proofs.kernel.Kernel.begin_wave.Goals as goal

pub unreachable-requires : goal.unreachable-requires
unreachable-requires g c =
    let state = c.loop-blocks.self.state in
    let picked = picked_begins state c.in-Some.block (asked pick_of _ _ _ _ c.state.ensures c.pick.ensures c.in-Some.is) in
    never_err (begun_of state c.in-Some.block) _ state c.begin.new.self.state c.in_default-begin.field-0 picked.3 c.in_default-begin.ensures.state

pub loop-blocks-preserved : goal.loop-blocks-preserved
loop-blocks-preserved g c =
    let w = wrote _ _ _ _ _ _ c.in-Some.block c.in-Ok.ticket _ _ c.keeps_rules.ensures (asked pick_of _ _ _ _ c.state.ensures c.pick.ensures c.in-Some.is) c.in-Ok.ensures.state c.in-Ok.ensures.ticket c.in-Ok.ensures.lanes
    c.land-landed.ensures.ticket c.land-landed.ensures.landed c.land-landed.ensures.old_or_new c.land-landed.ensures.faults_err c.land-landed.ensures.gives in
    let long = c.push_reserved.ensures.len in
    let capacity = c.push_reserved.ensures.capacity in
    let before = c.loop-blocks.invariant in
    record {
      written = writes_more g.L.Lane.bytes_of g.L.Lane.crash_leaves g.L.Lane.faults_of g.L.Lane.write_gives c.loop-blocks.blocks c.args.self.now c.loop-blocks.self c.begin.new.self c.loop-blocks.tickets.items c.push_reserved.new.self.items _ _ before.written w c.push_reserved.ensures.items;
      count = omega (arith, long, before.count);
      capacity = omega (arith, capacity, before.capacity);
    }

pub returns-in_default-clause-most : goal.returns-in_default-clause-most
returns-in_default-clause-most g c = inr (asked pick_of _ _ _ _ c.state.ensures c.pick.ensures c.in_default.is)
