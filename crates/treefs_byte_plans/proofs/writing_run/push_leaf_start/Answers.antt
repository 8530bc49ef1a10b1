use Rattle.std.proofs.Common.{rules}
use Rattle.treefs_byte_plans.proofs.MissingLeaves.{last_started}
use Rattle.treefs_byte_plans.proofs.writing_run.push_leaf_start.Goals as goal

pub returns-in-Some : goal.returns-in-Some
returns-in-Some c =
    last_started c.args.starts.now.items c.push.new.self.items _ c.in-Some.start.now c.args.place _ c.copy_to.new.leaf c.args.bytes.now c.in_ok-push.ensures.items
    (search rules) c.in-Some.ensures.value c.from.ensures c.copy_to.ensures
