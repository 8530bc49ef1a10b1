use Rattle.std.proofs.Common.{◌≡◌, ◌++◌, [], ◌∷◌, map, take}
use Rattle.treefs_model.specs.Acts.{wait_act}
use Rattle.treefs_name_plans.proofs.removing.push_waits.Given as goal

abbrev pub invariant-loop-other : goal.invariant-loop-other
invariant-loop-other l = l.acts.items ≡ l.fn.acts.items ++ map (wait_act l.block (l.first ∷ [])) (take l.other-index l.others)
