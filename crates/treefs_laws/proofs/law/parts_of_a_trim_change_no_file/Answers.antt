use Rattle.treefs_laws.proofs.TrimOpen.{blanks_said, drops_said, roots_said, waits_said}
use Rattle.treefs_laws.proofs.law.parts_of_a_trim_change_no_file.Goals as goal

pub returns-clause-blanks : goal.returns-clause-blanks
returns-clause-blanks c = λ T old new volume kept result is_open of does. blanks_said T old volume is_open kept of new result does

pub returns-clause-drops : goal.returns-clause-drops
returns-clause-drops c = λ T old new volume kept left result is_open of does. drops_said T old volume is_open kept of left new result does

pub returns-clause-waits : goal.returns-clause-waits
returns-clause-waits c = λ T old new volume kept result is_open of does. waits_said T old volume is_open kept of new result does

pub returns-clause-roots : goal.returns-clause-roots
returns-clause-roots c = λ T old new volume kept result is_open of does. roots_said T old volume is_open kept of new result does
