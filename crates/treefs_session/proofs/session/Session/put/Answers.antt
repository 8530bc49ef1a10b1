use Rattle.std.proofs.Common.{◌≡◌, ◌∙◌, ℕ, Err, List, Ok, Result, ap, arith, inl, inr, length, min, subst}
use Rattle.std.proofs.lemmas.List.{length-take}
use Rattle.xn_model.specs.Types.{Types}
use Rattle.xn_model.specs.Lives.{StoreState}
use Rattle.treefs_model.specs.declared.fault.Fault.{Fault}
use Rattle.treefs.specs.Creating.{BeginDoes}
use Rattle.treefs.specs.declared.volume.Volume.{Volume}
use Rattle.treefs_session.specs.Freeing.{MakesFreely}
use Rattle.treefs_session.specs.Puts.{Finishes}
use Rattle.treefs_session.proofs.session.Session.put.Goals as goal

pub invariant_of-begin-clause-short : goal.invariant_of-begin-clause-short
invariant_of-begin-clause-short g c =
    let head : length c.front.result.now ≡ min 384 (length c.args.put.now.bytes.now) = ap length c.front.ensures ∙ length-take 384 c.args.put.now.bytes.now in
    omega arith

pub returns-in-Ok-clause-does : goal.returns-in-Ok-clause-does
returns-in-Ok-clause-does g c =
    let T = g.S.Store.types_of c.args.self.now.store in
    let old = g.S.Store.state_of c.args.self.now.store in
    let middle = g.S.Store.state_of c.make.new.self.store in
    let new = g.S.Store.state_of c.finish.new.self.store in
    let between = c.make.new.self.volume in
    let put = c.args.put.now in
    let begins = subst (λ (head : List ℕ). MakesFreely (λ (a b : StoreState) (v w : Volume) (r : Result ℕ Fault). BeginDoes T a b v put.kind put.attributes head r × (w ≡ v)) T
    c.args.held.now old middle c.args.self.now.volume between (Ok c.in-Ok.block)) c.front.ensures c.in-Ok.ensures.does in
    let finishes = subst (λ (t : Types). Finishes t c.args.held.now put c.in-Ok.block middle new between c.finish.new.self.volume c.finish.result) c.make.ensures.types c.finish.ensures.does in
    inr (c.in-Ok.block, middle, between, begins, finishes)

pub returns-in-Err-clause-does : goal.returns-in-Err-clause-does
returns-in-Err-clause-does g c =
    let T = g.S.Store.types_of c.args.self.now.store in
    let old = g.S.Store.state_of c.args.self.now.store in
    let new = g.S.Store.state_of c.make.new.self.store in
    let put = c.args.put.now in
    inl (subst (λ (head : List ℕ). MakesFreely (λ (a b : StoreState) (v w : Volume) (r : Result ℕ Fault). BeginDoes T a b v put.kind put.attributes head r × (w ≡ v)) T
    c.args.held.now old new c.args.self.now.volume c.make.new.self.volume (Err c.in-Err.fault)) c.front.ensures c.in-Err.ensures.does)
