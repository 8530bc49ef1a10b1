use Rattle.std.proofs.Common.{◌≡◌, length}
use Rattle.file_disk.proofs.tests.many_threads_sync.Given as goal

abbrev pub invariant-loop-block : goal.invariant-loop-block
invariant-loop-block g l = length l.lanes ≡ 32
