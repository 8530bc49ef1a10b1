use Rattle.std.proofs.Common.{◌++◌, arith}
use Rattle.treefs_byte_plans.specs.Runs.{leaf_starts}
use Rattle.treefs_byte_plans.proofs.MissingLeaves.{leaf_pushed}
use Rattle.treefs_byte_plans.proofs.writing_run.push_leaf_starts.Goals as goal

pub loop-left-preserved : goal.loop-left-preserved
loop-left-preserved c = record {
  within = omega arith;
  joined = leaf_pushed (c.args.starts.now.items ++ leaf_starts c.args.count c.args.place c.args.bytes.now) c.loop-left.starts.items
      c.push_leaf_start.new.starts.items c.loop-left.left c.loop-left.place c.front.result.now c.loop-left.rest.now c.behind-rest.result.now
      c.loop-left-test.true c.front.ensures c.behind-rest.ensures c.in_ok-push_leaf_start.ensures c.loop-left.invariant.joined;
}
