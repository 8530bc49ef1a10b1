use Rattle.tree_lines.specs.Walks.{IsUnseen, StepsAlong, progress}
use Rattle.tree_lines.proofs.WalkSteps.{AreFew}
use Rattle.tree_lines.proofs.walking.Walk.next.Given as goal

abbrev pub invariant-loop-name : goal.invariant-loop-name
invariant-loop-name g l =
    record {
      along : StepsAlong (g.V.View.lists l.view) (g.V.View.shows l.view) IsUnseen (progress l.fn.self) l.fn.told (progress l.self) l.told;
      few : AreFew (progress l.self) l._name;
    }
