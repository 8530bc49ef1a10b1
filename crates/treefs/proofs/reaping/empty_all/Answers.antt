use Rattle.std.proofs.Common.{◌≡◌, ◌+◌, ◌∷◌, ◌∙◌, ℕ, List, Err, Ok, add-one, drop, get_or, inl, inr, subst, sym}
use Rattle.std.proofs.Math.Seq.{drop-cons}
use Rattle.xn_model.specs.Types.{Types}
use Rattle.treefs.specs.Reaping.{Empties, EmptiesOne}
use Rattle.treefs.proofs.reaping.empty_all.Goals as goal

pub returns-in-Err-clause-does : goal.returns-in-Err-clause-does
returns-in-Err-clause-does g c =
    let T = g.S.Store.types_of c.args.store.now in
    let i = c.loop-number.number-index in
    let ns = c.args.numbers.now in
    let state = g.S.Store.state_of c.loop-number.store in
    let new = g.S.Store.state_of c.empty_one.new.store in
    let fault = c.in-Err.fault in
    let first : drop i ns ≡ get_or ns i 0 ∷ drop (i + 1) ns = rw add-one (drop-cons ns i 0 c.loop-number-test.true) in
    let does = subst (λ (t : Types). EmptiesOne t c.args.tree c.args.memory.now (get_or ns i 0) state new (Err fault)) c.loop-number.invariant.types c.in-Err.ensures.does in
    c.loop-number.invariant.goes new (Err fault) (subst (λ (xs : List ℕ). Empties T c.args.tree c.args.memory.now xs state new (Err fault)) (sym first) (inl does))

pub loop-number-preserved : goal.loop-number-preserved
loop-number-preserved g c =
    let T = g.S.Store.types_of c.args.store.now in
    let i = c.loop-number.number-index in
    let ns = c.args.numbers.now in
    let state = g.S.Store.state_of c.loop-number.store in
    let middle = g.S.Store.state_of c.empty_one.new.store in
    let first : drop i ns ≡ get_or ns i 0 ∷ drop (i + 1) ns = rw add-one (drop-cons ns i 0 c.loop-number-test.true) in
    let does = subst (λ (t : Types). EmptiesOne t c.args.tree c.args.memory.now (get_or ns i 0) state middle (Ok tt)) c.loop-number.invariant.types c.in_default.ensures.does in
    record {
      types = c.empty_one.ensures.types ∙ c.loop-number.invariant.types;
      goes = λ new result h. c.loop-number.invariant.goes new result
          (subst (λ (xs : List ℕ). Empties T c.args.tree c.args.memory.now xs state new result) (sym first) (inr (middle, does, h)));
    }
