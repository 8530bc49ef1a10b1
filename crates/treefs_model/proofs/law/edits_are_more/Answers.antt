use Rattle.treefs_model.specs.Acts.{edit_in}
use Rattle.treefs_model.proofs.Edited.{edited_is, gives_ok}
use Rattle.xn_model.specs.Calls.{propose_of}
use Rattle.treefs_model.proofs.law.edits_are_more.Goals as goal

pub returns : goal.returns
returns c = λ T fs act old new number h made. edited_is T fs act old new number h (gives_ok (propose_of T old fs act.block (edit_in act old)) old new number made)
