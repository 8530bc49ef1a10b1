use Rattle.crash_check.proofs.Marks.{none-named}
use Rattle.crash_check.proofs.named.NamedBlocks.new.Goals as goal

pub invariant_of-result : goal.invariant_of-result
invariant_of-result c = rw c.in_ok-entries.ensures.items (none-named c.args.count c.requires c.in_ok-marks.marks.items (c.in_ok-marks.ensures.items_if_clones_equal (λ y e. e)))
