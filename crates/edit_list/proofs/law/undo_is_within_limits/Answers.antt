use Rattle.edit_list.proofs.Undoing.{undo_within_limits}
use Rattle.edit_list.proofs.law.undo_is_within_limits.Goals as goal

pub returns : goal.returns
returns c = undo_within_limits
