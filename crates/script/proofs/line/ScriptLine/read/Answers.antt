use Rattle.std.proofs.Common.{refl}
use Rattle.script.specs.Told.{told_event}
use Rattle.script.proofs.line.ScriptLine.read.Goals as goal

pub returns-in-Some-clause-some : goal.returns-in-Some-clause-some
returns-in-Some-clause-some c = (refl, (told_event c.in-Some.told, rw c.in-Some.is at c.in_ok-told.ensures.some))
