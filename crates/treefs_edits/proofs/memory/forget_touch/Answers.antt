use Rattle.std.proofs.Common.{◌==◌, ◌∙◌, ap, rules, sym, tests}
use Rattle.std.proofs.lemmas.Iterator.{YieldsList-from_slice}
use Rattle.std.proofs.lemmas.Iterator.Search.{position_from_yields_List}
use Rattle.treefs_edits.specs.Memories.{taken_out}
use Rattle.treefs_edits.proofs.memory.forget_touch.Goals as goal

pub returns-in-Some-clause-touched : goal.returns-in-Some-clause-touched
returns-in-Some-clause-touched c =
    let old = c.args.touched.now.items in
    let found = position_from_yields_List (λ touch. touch.number == c.args.number) c.position.new.self _ c.position.result c.position.ensures.ran (YieldsList-from_slice old (c.iter.ensures.rest ∙ c.deref.ensures.value)) (λ x b q k. search (rules, tests)) in
    c.remove.ensures.items ∙ ap (taken_out old) (sym c.in-Some.is ∙ found)

pub returns-in_default-clause-touched : goal.returns-in_default-clause-touched
returns-in_default-clause-touched c =
    let old = c.args.touched.now.items in
    let found = position_from_yields_List (λ touch. touch.number == c.args.number) c.position.new.self _ c.position.result c.position.ensures.ran (YieldsList-from_slice old (c.iter.ensures.rest ∙ c.deref.ensures.value)) (λ x b q k. search (rules, tests)) in
    ap (taken_out old) (sym c.in_default.is ∙ found)
