use Rattle.std.proofs.Common.{◌≡◌, ◌+◌, ◌∷◌, ◌++◌, [], length, arith, sym, ◌∙◌, ap, subst}
use Rattle.std.proofs.lemmas.Iterator.Consumers.{YieldsList-at, YieldsList-end, YieldsList-from_enumerate, YieldsList-turn}
use Rattle.std.proofs.lemmas.Iterator.Splits.{YieldsList-from_str_split}
use Rattle.std.proofs.lemmas.List.{length_push}
use Rattle.script.specs.Events.{SpellNothing}
use Rattle.script.specs.Scripts.{lines_of, is_passed_over, line_words, SpellsSome}
use Rattle.script.proofs.ScriptLines.{all_read, line_at, passed_over, spelled_more, first_unreadable, IsReadTo}
use Rattle.script.proofs.script.parse.Goals as goal

pub loop-place-preserved-then-is_passed_over : goal.loop-place-preserved-then-is_passed_over
loop-place-preserved-then-is_passed_over c =
    let road = YieldsList-from_enumerate (YieldsList-at (cc) (YieldsList-from_str_split {s = c.split.result} 10 c.args.script.now (omega arith) c.split.ensures.text c.split.ensures.has_more c.split.ensures.pattern)) (cc) in
    let turn = YieldsList-turn road c.loop-place.yielded _ c.loop-place.yielded_by _ _ _ c.in-Some.is c.next.ensures.steps in
    let lines = lines_of c.args.script.now in
    let kept = c.loop-place.lines.items in
    let line = line_at lines (length c.loop-place.yielded) c.in-Some.place c.in-Some.text.now turn in
    let more = passed_over lines (length c.loop-place.yielded) kept line.within (ap is_passed_over line.at ∙ (sym c.is_passed_over.ensures ∙ c.if-is_passed_over.true)) c.loop-place.invariant in
    subst (λ n. IsReadTo lines n kept) (sym (length_push c.loop-place.yielded (c.in-Some.place, c.in-Some.text))) more

pub loop-place-preserved : goal.loop-place-preserved
loop-place-preserved c =
    let road = YieldsList-from_enumerate (YieldsList-at (cc) (YieldsList-from_str_split {s = c.split.result} 10 c.args.script.now (omega arith) c.split.ensures.text c.split.ensures.has_more c.split.ensures.pattern)) (cc) in
    let turn = YieldsList-turn road c.loop-place.yielded _ c.loop-place.yielded_by _ _ _ c.in-Some.is c.next.ensures.steps in
    let lines = lines_of c.args.script.now in
    let kept = c.loop-place.lines.items in
    let line = line_at lines (length c.loop-place.yielded) c.in-Some.place c.in-Some.text.now turn in
    let read = rw c.in-Some-2.is at c.in_ok-line.ensures.some in
    let pushed : c.push.new.self.items ≡ kept ++ c.in-Some.text.now ∷ [] = c.in_ok-push-in-Some-2.ensures.items ∙ ap (λ last. kept ++ last ∷ []) read.0 in
    let more = spelled_more lines (length c.loop-place.yielded) kept c.push.new.self.items line.within (ap is_passed_over line.at ∙ (sym c.is_passed_over.ensures ∙ c.if-is_passed_over.false))
    (subst SpellsSome (sym line.at) read.1) (pushed ∙ ap (λ last. kept ++ last ∷ []) (sym line.at)) c.loop-place.invariant in
    subst (λ n. IsReadTo lines n c.push.new.self.items) (sym (length_push c.loop-place.yielded (c.in-Some.place, c.in-Some.text))) more

pub returns-in-None-2-clause-fault : goal.returns-in-None-2-clause-fault
returns-in-None-2-clause-fault c =
    let road = YieldsList-from_enumerate (YieldsList-at (cc) (YieldsList-from_str_split {s = c.split.result} 10 c.args.script.now (omega arith) c.split.ensures.text c.split.ensures.has_more c.split.ensures.pattern)) (cc) in
    let turn = YieldsList-turn road c.loop-place.yielded _ c.loop-place.yielded_by _ _ _ c.in-Some.is c.next.ensures.steps in
    let line = line_at (lines_of c.args.script.now) (length c.loop-place.yielded) c.in-Some.place c.in-Some.text.now turn in
    let none : SpellNothing (line_words c.in-Some.text.now) = rw c.in-None-2.is at c.in_ok-line.ensures.none in
    first_unreadable c.args.script.now (length c.loop-place.yielded) (c.in-Some.place + 1) c.loop-place.lines.items line.within (ap (λ n. n + 1) line.counted)
    (ap is_passed_over line.at ∙ (sym c.is_passed_over.ensures ∙ c.if-is_passed_over.false))
    (subst (λ text. SpellNothing (line_words text)) (sym line.at) none) c.loop-place.invariant

pub returns-clause-lines : goal.returns-clause-lines
returns-clause-lines c =
    let road = YieldsList-from_enumerate (YieldsList-at (cc) (YieldsList-from_str_split {s = c.split.result} 10 c.args.script.now (omega arith) c.split.ensures.text c.split.ensures.has_more c.split.ensures.pattern)) (cc) in
    let end = YieldsList-end road c.loop-place.yielded _ c.loop-place.yielded_by _ _ c.in-None.is c.next.ensures.steps in
    all_read c.args.script.now (length c.loop-place.yielded) c.loop-place.lines.items end.1 c.loop-place.invariant
