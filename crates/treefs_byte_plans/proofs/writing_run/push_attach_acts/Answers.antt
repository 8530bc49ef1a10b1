use Rattle.std.proofs.Common.{◌++◌, arith}
use Rattle.treefs_byte_plans.specs.Runs.{attach_acts}
use Rattle.treefs_byte_plans.proofs.MissingLeaves.{attach_pushed}
use Rattle.treefs_byte_plans.proofs.writing_run.push_attach_acts.Goals as goal

pub loop-left-preserved : goal.loop-left-preserved
loop-left-preserved c =
    let within = c.loop-left.invariant.within in
    record {
      within = omega arith;
      joined = attach_pushed (c.args.acts.now.items ++ attach_acts c.args.edits c.args.holder c.args.offset c.args.leaves.now) c.loop-left.acts.items
          c.push.new.self.items c.in_ok-attach.field-0 c.loop-left.left c.args.holder c.loop-left.offset c.from.result c.front-some.result.now c.loop-left.rest.now
          c.behind-rest.result.now c.loop-left-test.true c.from.ensures c.front-some.ensures c.behind-rest.ensures c.in_ok-attach.ensures
          c.in_ok-push.ensures.items c.loop-left.invariant.joined;
    }
