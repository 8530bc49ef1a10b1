use Rattle.std.proofs.Common.{◌≡◌, ◌-◌, ◌++◌, length}
use Rattle.std.specs.Prelude.{map}
use Rattle.treefs_format.specs.Paths.{node_offset, place_in_tree, places}
use Rattle.treefs_format.proofs.paths.path.Given as goal

abbrev pub invariant-loop-level : goal.invariant-loop-level
invariant-loop-level l = (length l.offsets.items ≡ l._level) × (l.offsets.items ++ map node_offset (places (l.height - l._level) l.place) ≡ map node_offset (places l.height (place_in_tree l.fn.leaf)))
