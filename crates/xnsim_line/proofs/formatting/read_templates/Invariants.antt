use Rattle.std.proofs.Common.{take}
use Rattle.xnsim_line.specs.Formatting.{AreTemplates}
use Rattle.xnsim_line.proofs.formatting.read_templates.Given as goal

abbrev pub invariant-loop-place : goal.invariant-loop-place
invariant-loop-place l = AreTemplates (take l.place l.blocks) l.templates.items
