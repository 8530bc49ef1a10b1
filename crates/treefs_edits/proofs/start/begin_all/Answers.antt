use Rattle.std.proofs.Common.{◌≡◌, ◌+◌, ◌∷◌, [], ◌∙◌, ℕ, List, Err, Ok, add-one, ap, arith, drop, get_or, inr, subst, sym}
use Rattle.std.proofs.Math.Seq.{drop-cons}
use Rattle.xn_model.specs.Types.{Types}
use Rattle.treefs_edits.specs.Plans.{Begins, Begun, Start, forgotten}
use Rattle.treefs_edits.proofs.Begun.{stops_here}
use Rattle.treefs_edits.proofs.start.begin_all.Goals as goal

pub returns-in-Err-clause-err : goal.returns-in-Err-clause-err
returns-in-Err-clause-err g c =
    let T = g.S.Store.types_of c.args.store.now in
    let fs = c.args.fs.number in
    let i = c.loop-start.start-index in
    let all = c.args.starts.now in
    let begun = c.loop-start.begun.items in
    let old = g.S.Store.state_of c.loop-start.store in
    let middle = g.S.Store.state_of c.init.new.self in
    let new = g.S.Store.state_of c.forget_all.new.store in
    let none : Start = record { ty = 0; bytes = [] } in
    let start = get_or all i none in
    let first : drop i all ≡ start ∷ drop (i + 1) all = rw add-one (drop-cons all i none c.loop-start-test.true) in
    let made : Begun T fs start old middle (Err c.in-Err.reason) = subst (λ (t : Types). Begun t fs start old middle (Err c.in-Err.reason)) c.loop-start.invariant.types c.in-Err.ensures.state in
    let left : new ≡ forgotten T fs begun middle =
    c.forget_all.ensures.forgotten
    ∙ (ap (λ (t : Types). forgotten t fs c.deref.result.now middle) (c.init.ensures.types ∙ c.loop-start.invariant.types) ∙ ap (λ (b : List ℕ). forgotten T fs b middle) c.deref.ensures.value) in
    inr (c.loop-start.invariant.goes new (Err c.start_fault.result) (subst (λ (ss : List Start). Begins T fs ss begun old new (Err c.start_fault.result)) (sym first)
    (stops_here T fs start (drop (i + 1) all) begun old middle new c.in-Err.reason c.start_fault.result made c.start_fault.ensures left)))

pub loop-start-preserved : goal.loop-start-preserved
loop-start-preserved g c =
    let T = g.S.Store.types_of c.args.store.now in
    let fs = c.args.fs.number in
    let i = c.loop-start.start-index in
    let all = c.args.starts.now in
    let begun = c.loop-start.begun.items in
    let old = g.S.Store.state_of c.loop-start.store in
    let middle = g.S.Store.state_of c.init.new.self in
    let none : Start = record { ty = 0; bytes = [] } in
    let start = get_or all i none in
    let first : drop i all ≡ start ∷ drop (i + 1) all = rw add-one (drop-cons all i none c.loop-start-test.true) in
    let made : Begun T fs start old middle (Ok (c.in-Ok.block, c.in-Ok.field-0-1)) =
    subst (λ (t : Types). Begun t fs start old middle (Ok (c.in-Ok.block, c.in-Ok.field-0-1))) c.loop-start.invariant.types c.in-Ok.ensures.state in
    let items = rw c.unwrap.ensures at c.push.ensures.items in
    let count = rw c.unwrap.ensures at c.push.ensures.len in
    record {
      types = c.init.ensures.types ∙ c.loop-start.invariant.types;
      goes = λ new result h. c.loop-start.invariant.goes new result (subst (λ (ss : List Start). Begins T fs ss begun old new result) (sym first)
          (inr ((c.in-Ok.block, c.in-Ok.field-0-1), middle, made, subst (λ (b : List ℕ). Begins T fs (drop (i + 1) all) b middle new result) items h)));
      count = omega (arith, count, c.loop-start.invariant.count);
      room = omega (arith, c.loop-start.invariant.room, c.push.ensures.capacity);
    }
