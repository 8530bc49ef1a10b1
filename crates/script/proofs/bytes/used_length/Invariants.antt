use Rattle.std.proofs.Common.{◌≡◌, ◌≤◌, take}
use Rattle.script.specs.Bytes.{used_length}
use Rattle.script.proofs.bytes.used_length.Given as goal

abbrev pub invariant-loop-place : goal.invariant-loop-place
invariant-loop-place l = (l.used ≡ used_length (take l.place l.bytes)) × (l.used ≤ l.place)
