use Rattle.std.proofs.Common.{◌≡◌, ◌+◌, ◌∷◌, ◌∙◌, ℕ, List, Err, Ok, add-one, drop, get_or, inl, inr, subst, sym}
use Rattle.std.proofs.Math.Seq.{drop-cons}
use Rattle.xn_model.specs.Types.{Types}
use Rattle.treefs.specs.Reaping.{Reaps, ReapsOne}
use Rattle.treefs.proofs.reaping.free_all.Goals as goal

pub returns-in-Err-clause-does : goal.returns-in-Err-clause-does
returns-in-Err-clause-does g c =
    let T = g.S.Store.types_of c.args.store.now in
    let i = c.loop-number.number-index in
    let ns = c.args.numbers.now in
    let state = g.S.Store.state_of c.loop-number.store in
    let new = g.S.Store.state_of c.free_beside.new.store in
    let memory = c.loop-number.memory in
    let memory' = c.free_beside.new.memory in
    let fault = c.in-Err.fault in
    let first : drop i ns ≡ get_or ns i 0 ∷ drop (i + 1) ns = rw add-one (drop-cons ns i 0 c.loop-number-test.true) in
    let does = subst (λ (t : Types). ReapsOne t c.args.tree ns (get_or ns i 0) state new memory memory' (Err fault)) c.loop-number.invariant.types c.in-Err.ensures.does in
    c.loop-number.invariant.goes new memory' (Err fault) (subst (λ (xs : List ℕ). Reaps T c.args.tree ns xs state new memory memory' (Err fault)) (sym first) (inl does))

pub loop-number-preserved : goal.loop-number-preserved
loop-number-preserved g c =
    let T = g.S.Store.types_of c.args.store.now in
    let i = c.loop-number.number-index in
    let ns = c.args.numbers.now in
    let state = g.S.Store.state_of c.loop-number.store in
    let middle = g.S.Store.state_of c.free_beside.new.store in
    let memory = c.loop-number.memory in
    let between = c.free_beside.new.memory in
    let first : drop i ns ≡ get_or ns i 0 ∷ drop (i + 1) ns = rw add-one (drop-cons ns i 0 c.loop-number-test.true) in
    let does = subst (λ (t : Types). ReapsOne t c.args.tree ns (get_or ns i 0) state middle memory between (Ok tt)) c.loop-number.invariant.types c.in_default.ensures.does in
    record {
      types = c.free_beside.ensures.types ∙ c.loop-number.invariant.types;
      goes = λ new memory' result h. c.loop-number.invariant.goes new memory' result
          (subst (λ (xs : List ℕ). Reaps T c.args.tree ns xs state new memory memory' result) (sym first) (inr (middle, between, does, h)));
    }
