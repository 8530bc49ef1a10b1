use Rattle.std.proofs.Common.{◌≡◌, ◌-◌, ◌^◌}
use Rattle.treefs_format.specs.Paths.{place_in_tree}
use Rattle.treefs_lookup.specs.Walks.{place_above}
use Rattle.treefs_lookup.proofs.leaves.leaf_behind.Given as goal

abbrev pub invariant-loop-level : goal.invariant-loop-level
invariant-loop-level l = record {
  place : place_above (l.levels - l._level) l.place ≡ place_above l.levels (place_in_tree l.fn.leaf);
  leaves : l.leaves ≡ 127 ^ l._level;
}
