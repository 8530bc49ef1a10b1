use Rattle.std.proofs.Common.{◌≡◌, length}
use Rattle.file_disk.proofs.found_block.FoundImage.read.Given as goal

abbrev pub invariant-loop-piece : goal.invariant-loop-piece
invariant-loop-piece l = length l.bytes.items ≡ l.len
