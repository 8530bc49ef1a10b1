use Rattle.std.proofs.Common.{◌-◌}
use Rattle.file_disk.proofs.found_block.write_blocks.Given as goal

abbrev pub decreases-loop-start : goal.decreases-loop-start
decreases-loop-start l = l.len - l.start
