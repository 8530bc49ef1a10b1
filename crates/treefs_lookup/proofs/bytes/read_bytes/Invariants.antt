use Rattle.std.proofs.Common.{◌≡◌, ◌++◌, ◌-◌, ◌≤◌, drop}
use Rattle.treefs_lookup.specs.Bytes.{bytes_from}
use Rattle.treefs_lookup.specs.Readable.{readable}
use Rattle.treefs_lookup.proofs.bytes.read_bytes.Given as goal

abbrev pub invariant-loop-done : goal.invariant-loop-done
invariant-loop-done g l = record {
  within : l.done ≤ l.count;
  bytes : l.bytes ≡ bytes_from (readable (g.S.Store.state_of l.store) l.fs.number) l.file.block l.at l.done ++ drop l.done l.fn.bytes;
}

abbrev pub decreases-loop-done : goal.decreases-loop-done
decreases-loop-done g l = l.count - l.done
