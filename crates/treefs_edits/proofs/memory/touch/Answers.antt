use Rattle.std.proofs.Common.{◌==◌, ℕ, Option, ◌∙◌, ap, rules, sym, tests}
use Rattle.std.proofs.lemmas.Iterator.{YieldsList-from_slice}
use Rattle.std.proofs.lemmas.Iterator.Search.{position_from_yields_List}
use Rattle.treefs_edits.specs.Memories.{put_at}
use Rattle.treefs_edits.proofs.memory.touch.Goals as goal

pub returns-in-Some-clause-touched : goal.returns-in-Some-clause-touched
returns-in-Some-clause-touched c =
    let old = c.args.touched.now.items in
    let found = position_from_yields_List (λ touch. touch.number == c.args.number) c.position.new.self _ c.position.result c.position.ensures.ran (YieldsList-from_slice old (c.iter.ensures.rest ∙ c.deref.ensures.value)) (λ x b q k. search (rules, tests)) in
    ap (λ (r : Option ℕ). put_at old r (record { number = c.args.number; times = c.args.times })) (sym c.in-Some.is ∙ found)

pub returns-in-None-clause-touched : goal.returns-in-None-clause-touched
returns-in-None-clause-touched c =
    let old = c.args.touched.now.items in
    let found = position_from_yields_List (λ touch. touch.number == c.args.number) c.position.new.self _ c.position.result c.position.ensures.ran (YieldsList-from_slice old (c.iter.ensures.rest ∙ c.deref.ensures.value)) (λ x b q k. search (rules, tests)) in
    let pushed = rw c.unwrap.ensures at c.push.ensures.items in
    pushed ∙ ap (λ (r : Option ℕ). put_at old r (record { number = c.args.number; times = c.args.times })) (sym c.in-None.is ∙ found)
