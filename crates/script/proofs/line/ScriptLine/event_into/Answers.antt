use Rattle.std.proofs.Common.{subst, sym}
use Rattle.script.specs.Scripts.{LineSpells}
use Rattle.script.specs.Events.{Spells}
use Rattle.script.proofs.line.ScriptLine.event_into.Goals as goal

pub returns : goal.returns
returns c = subst (λ line. LineSpells line c.put_told.new.event) c.self.view_is (subst (Spells _) (sym c.put_told.ensures) c.self.invariant)
