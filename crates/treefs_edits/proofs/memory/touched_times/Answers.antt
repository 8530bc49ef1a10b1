use Rattle.std.proofs.Common.{◌==◌, Option, ◌∙◌, ap, rules, sym, tests, Bor}
use Rattle.std.specs.Prelude.{option_map}
use Rattle.std.proofs.lemmas.Iterator.{YieldsList-from_slice}
use Rattle.std.proofs.lemmas.Iterator.Search.{find_from_yields_List}
use Rattle.treefs_edits.specs.Memories.{Touched, times_in}
use Rattle.treefs_edits.proofs.memory.touched_times.Goals as goal

pub returns-in-Some : goal.returns-in-Some
returns-in-Some c =
    let found = find_from_yields_List (λ touch. touch.number == c.args.number) c.find.new.self _ c.find.result c.find.ensures.ran (YieldsList-from_slice c.args.touched.now c.iter.ensures.rest) (λ x b q k. search (rules, tests)) in
    ap (λ (r : Option Touched). times_in r c.args.times) (sym (ap (option_map (λ (x : Bor Touched). x.now)) c.in-Some.is) ∙ found)

pub returns-in-None : goal.returns-in-None
returns-in-None c =
    let found = find_from_yields_List (λ touch. touch.number == c.args.number) c.find.new.self _ c.find.result c.find.ensures.ran (YieldsList-from_slice c.args.touched.now c.iter.ensures.rest) (λ x b q k. search (rules, tests)) in
    ap (λ (r : Option Touched). times_in r c.args.times) (sym (ap (option_map (λ (x : Bor Touched). x.now)) c.in-None.is) ∙ found)
