use Rattle.treefs_session_laws.specs.Before.{IsUnheld}
use Rattle.treefs_session_laws.proofs.Freed.{held_or_not}
use Rattle.treefs_session_laws.proofs.Rewriting.{few_reaped}
use Rattle.treefs_session_laws.proofs.bytes.sessions_leave_few_bytes.Goals as goal

pub returns : goal.returns
returns c = λ held old new m reaped few. few_reaped (IsUnheld held) (held_or_not held) m old new reaped few
