use Rattle.std.proofs.Common.{◌≡◌, ◌+◌, ◌-◌, ◌≤◌, ℕ, Option, None, length, IsOk, min}
use Rattle.ffs_lib.proofs.Common.{Types, file_in}
use Rattle.ffs_lib.specs.Steps.{Stage, newest_block}
use Rattle.ffs_lib.specs.Writes.{Parts}
use Rattle.ffs_lib.proofs.data.write_parts.Given as goal

-- the first bytes are written, and no part was refused
abbrev pub invariant-loop-progress : goal.invariant-loop-progress
invariant-loop-progress g l =
    let old = g.S.Store.state_of l.initial.store in
    record {
      types : g.S.Store.types_of l.store ≡ g.S.Store.types_of l.initial.store;
      none : l.progress.fault ≡ None;
      few : min l.end l.offset + l.progress.done ≤ l.offset + length l.bytes;
      parts : (T : Types) (array : ℕ → Option ℕ) → g.S.Store.types_of l.initial.store ≡ T → Stage T l.fs.number array old → IsOk (file_in (newest_block old) l.fs.number l.number) →
          Parts T l.fs.number array old (g.S.Store.state_of l.store) l.number l.end l.offset l.bytes l.progress;
    }

abbrev pub decreases-loop-progress : goal.decreases-loop-progress
decreases-loop-progress g l = l.offset + length l.bytes - (min l.end l.offset + l.progress.done)
