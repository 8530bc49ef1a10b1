use Rattle.std.proofs.Common.{◌≡◌, ◌++◌, ◌-◌, ◌≤◌, drop, map}
use Rattle.ffs_lib.proofs.Common.{byte_of, latest, range_with_len}
use Rattle.ffs_lib.proofs.volume.Volume.read.Given as goal

abbrev pub invariant-loop-done : goal.invariant-loop-done
invariant-loop-done g l = record {
  within : l.done ≤ l.count;
  bytes : l.bytes ≡ map (byte_of (latest (g.S.Store.state_of l.store).lives) l.file.inode) (range_with_len l.start l.done) ++ drop l.done l.fn.bytes;
}

abbrev pub decreases-loop-done : goal.decreases-loop-done
decreases-loop-done g l = l.count - l.done
