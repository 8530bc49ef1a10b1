use Rattle.std.proofs.Common.{length}
use Rattle.script.specs.Scripts.{lines_of}
use Rattle.script.proofs.ScriptLines.{IsReadTo}
use Rattle.script.proofs.script.parse.Given as goal

abbrev pub invariant-loop-place : goal.invariant-loop-place
invariant-loop-place l = IsReadTo (lines_of l.script) (length l.yielded) l.lines.items
