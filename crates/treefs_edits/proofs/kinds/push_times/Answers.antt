use Rattle.std.proofs.Common.{◌++◌, ◌∷◌, [], ◌∙◌, ap}
use Rattle.xn_model.specs.Calls.{Patch}
use Rattle.treefs_edits.proofs.kinds.push_times.Goals as goal

pub returns-in_ok-push : goal.returns-in_ok-push
returns-in_ok-push c = rw c.in-Some.is (c.in_ok-push.ensures.items ∙ ap (λ (p : Patch). c.args.patches.now.items ++ p ∷ []) c.in_ok-write_times.ensures)
