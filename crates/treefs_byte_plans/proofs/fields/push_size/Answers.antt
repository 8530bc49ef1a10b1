use Rattle.std.proofs.Common.{List, [], ◌∷◌, ◌++◌, ◌∙◌, ap}
use Rattle.xn_model.specs.Calls.{Patch}
use Rattle.treefs_byte_plans.proofs.fields.push_size.Goals as goal

pub returns-in_ok-push-in-Some : goal.returns-in_ok-push-in-Some
returns-in_ok-push-in-Some c =
    rw c.in-Some.is (c.in_ok-push-in-Some.ensures.items ∙ ap (λ (p : Patch). c.args.patches.now.items ++ p ∷ []) c.in_ok-size_patch-in-Some.ensures)

pub returns-in-None : goal.returns-in-None
returns-in-None c = rw c.in-None.is c.push_times.ensures
