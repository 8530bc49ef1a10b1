use Rattle.treefs_laws.proofs.TruncatedOpen.{truncate_done, truncate_refused}
use Rattle.treefs_laws.proofs.law.truncate_sets_a_size.Goals as goal

pub returns-clause-done : goal.returns-clause-done
returns-clause-done c = λ T old new volume volume' number size is_open does. truncate_done T old volume is_open number size new volume' does

pub returns-clause-refused : goal.returns-clause-refused
returns-clause-refused c = λ T old new volume volume' number size fault is_open does.
    truncate_refused T old volume is_open number size new volume' fault does
