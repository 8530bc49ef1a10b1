use Rattle.std.proofs.Common.{arith}
use Rattle.treefs_byte_plans.proofs.MissingLeaves.{copied}
use Rattle.treefs_byte_plans.proofs.writing_run.copy_to.Goals as goal

pub returns : goal.returns
returns c = copied c.args.place _ c.args.leaf.now c.args.bytes.now _ c.requires.blank (omega arith) c.copy_from_slice.ensures.after
