use Rattle.std.proofs.Common.{refl}
use Rattle.xnsim_line.proofs.TemplatesRead.{one_more, first_fault}
use Rattle.xnsim_line.proofs.formatting.read_templates.Goals as goal

pub returns-in-Err-clause-fault : goal.returns-in-Err-clause-fault
returns-in-Err-clause-fault c =
    first_fault c.args.blocks.now c.loop-place.place _ c.loop-place.templates.items c.in-Err.fault c.loop-place-test.true c.in-Err.ensures.exact c.in-Err.ensures.memory_last c.loop-place.invariant

pub loop-place-preserved : goal.loop-place-preserved
loop-place-preserved c =
    one_more c.args.blocks.now c.loop-place.place _ c.loop-place.templates.items c.push.new.self.items c.in-Ok.template c.loop-place-test.true refl
    c.in-Ok.ensures.accepted.0 c.in-Ok.ensures.accepted.1 c.in_ok-push-in-Ok.ensures.items c.loop-place.invariant
