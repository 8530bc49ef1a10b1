use Rattle.edit_list.proofs.Undoing.{undone}
use Rattle.edit_list.proofs.law.undone_is_as_before.Goals as goal

pub returns : goal.returns
returns c = undone
