use Rattle.std.proofs.Common.{◌≡◌, ◌+◌, drop}
use Rattle.treefs_paths.specs.Ways.{name_end}
use Rattle.treefs_paths.proofs.names.name_end.Given as goal

abbrev pub invariant-loop-end : goal.invariant-loop-end
invariant-loop-end l = l.end + name_end (drop l.end l.path) ≡ name_end l.path
