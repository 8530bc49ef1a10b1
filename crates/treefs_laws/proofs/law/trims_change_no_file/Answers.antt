use Rattle.treefs_laws.proofs.TrimOpen.{call_said, trim_said}
use Rattle.treefs_laws.proofs.law.trims_change_no_file.Goals as goal

pub returns-clause-first : goal.returns-clause-first
returns-clause-first c = λ T old new volume kept result is_open of does. trim_said T old volume is_open kept of new result does

pub returns-clause-call : goal.returns-clause-call
returns-clause-call c = λ T old new volume number result is_open does. call_said T old volume is_open number new result does
