use Rattle.std.proofs.Common.{◌≡◌, ◌++◌, drop}
use Rattle.std.specs.List.{flat_map}
use Rattle.treefs_format.specs.Fields.{change_bytes}
use Rattle.treefs_format.proofs.fields.Change.patch.Given as goal

abbrev pub invariant-loop-change : goal.invariant-loop-change
invariant-loop-change l = l.bytes.items ++ flat_map change_bytes (drop l.change-index l.changes) ≡ flat_map change_bytes l.changes
