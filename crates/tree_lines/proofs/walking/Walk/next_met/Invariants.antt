use Rattle.std.proofs.Common.{◌+◌, ◌≤◌, length}
use Rattle.tree_lines.specs.Walks.{IsUnmet, StepsAlong, progress}
use Rattle.tree_lines.proofs.walking.Walk.next_met.Given as goal

abbrev pub invariant-loop-visit : goal.invariant-loop-visit
invariant-loop-visit g l =
    record {
      along : StepsAlong (g.V.View.lists l.view) (g.V.View.shows l.view) IsUnmet (progress l.fn.self) l.fn.told (progress l.self) l.told;
      few : length (progress l.self).folders + l._visit ≤ length (progress l.fn.self).folders;
    }
