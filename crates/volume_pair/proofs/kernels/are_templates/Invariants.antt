use Rattle.std.proofs.Common.{take}
use Rattle.std.specs.Prelude.{All}
use Rattle.templates.specs.Templates.{IsTemplate}
use Rattle.volume_pair.proofs.kernels.are_templates.Given as goal

abbrev pub invariant-loop-at : goal.invariant-loop-at
invariant-loop-at l = All IsTemplate (take l.at l.templates)
