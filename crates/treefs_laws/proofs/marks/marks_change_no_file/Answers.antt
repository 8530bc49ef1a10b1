use Rattle.treefs_laws.proofs.Marked.{mark_said}
use Rattle.treefs_laws.proofs.marks.marks_change_no_file.Goals as goal

pub returns : goal.returns
returns c = λ T old new volume clean result is_open does. mark_said T old new volume clean is_open result does
