use Rattle.std.proofs.Common.{◌≡◌, ℕ, ◌<◌, ◌∙◌, Err, List, Ok, arith, length, rules, subst}
use Rattle.xn_model.specs.Types.{Types}
use Rattle.treefs_session.specs.Pieces.{WritesAll, WritesSome, advanced}
use Rattle.treefs_session.specs.Pieces.WritesAll.{goes, stays, stops, whole}
use Rattle.treefs_session.specs.declared.calls.bytes.Target.{Target}
use Rattle.treefs_session.proofs.session.Session.write_all.Goals as goal

pub returns-in-Err-clause-does : goal.returns-in-Err-clause-does
returns-in-Err-clause-does g c =
    let old = g.S.Store.state_of c.loop-left.self.store in
    let new = g.S.Store.state_of c.make.new.self.store in
    let volume = c.loop-left.self.volume in
    let left : 0 < length c.loop-left.left.now = search rules in
    let made = subst (λ (t : Types). WritesSome t c.args.held.now c.loop-left.target c.loop-left.left.now old new volume c.make.new.self.volume (Err c.in-Err.fault)) c.loop-left.invariant.types c.in-Err.ensures.does in
    c.loop-left.invariant.goes new c.make.new.self.volume (Err c.in-Err.fault) (stops left made)

pub returns-then-taken-eq0-clause-does : goal.returns-then-taken-eq0-clause-does
returns-then-taken-eq0-clause-does g c =
    let T = g.S.Store.types_of c.args.self.now.store in
    let old = g.S.Store.state_of c.loop-left.self.store in
    let new = g.S.Store.state_of c.make.new.self.store in
    let volume = c.loop-left.self.volume in
    let left : 0 < length c.loop-left.left.now = search rules in
    let made = subst (λ (t : Types). WritesSome t c.args.held.now c.loop-left.target c.loop-left.left.now old new volume c.make.new.self.volume (Ok c.in-Ok.taken)) c.loop-left.invariant.types c.in-Ok.ensures.does in
    let none = subst (λ (n : ℕ). WritesSome T c.args.held.now c.loop-left.target c.loop-left.left.now old new volume c.make.new.self.volume (Ok n)) c.if-taken-eq0.true made in
    c.loop-left.invariant.goes new c.make.new.self.volume (Err _) (stays left none)

pub loop-left-preserved : goal.loop-left-preserved
loop-left-preserved g c =
    let T = g.S.Store.types_of c.args.self.now.store in
    let old = g.S.Store.state_of c.loop-left.self.store in
    let middle = g.S.Store.state_of c.make.new.self.store in
    let volume = c.loop-left.self.volume in
    let between = c.make.new.self.volume in
    let left : 0 < length c.loop-left.left.now = search rules in
    let taken : 0 < c.in-Ok.taken = omega arith in
    let made = subst (λ (t : Types). WritesSome t c.args.held.now c.loop-left.target c.loop-left.left.now old middle volume between (Ok c.in-Ok.taken)) c.loop-left.invariant.types c.in-Ok.ensures.does in
    record {
      types = c.make.ensures.types ∙ c.loop-left.invariant.types;
      goes = λ new volume' result h. c.loop-left.invariant.goes new volume' result
          (goes c.in-Ok.taken middle between left taken made
          (subst (λ (l : List ℕ). WritesAll T c.args.held.now (advanced c.loop-left.target c.in-Ok.taken) l middle new between volume' result) c.behind-left.ensures
          (subst (λ (target : Target). WritesAll T c.args.held.now target c.behind-left.result.now middle new between volume' result) c.advanced-target.ensures h)));
    }

pub returns-clause-does : goal.returns-clause-does
returns-clause-does g c =
    let left : length c.loop-left.left.now ≡ 0 = search rules in
    c.loop-left.invariant.goes (g.S.Store.state_of c.loop-left.self.store) c.loop-left.self.volume (Ok tt) (whole left)
