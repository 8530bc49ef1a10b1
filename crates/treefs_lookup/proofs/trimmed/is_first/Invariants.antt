use Rattle.std.proofs.Common.{◌≡◌, ◌-◌}
use Rattle.treefs_format.specs.Paths.{place_in_tree}
use Rattle.treefs_lookup.specs.Trimmed.{is_first}
use Rattle.treefs_lookup.proofs.trimmed.is_first.Given as goal

abbrev pub invariant-loop-level : goal.invariant-loop-level
invariant-loop-level l = is_first l.levels (place_in_tree l.fn.leaf) ≡ is_first (l.levels - l._level) l.place
