use Rattle.std.proofs.Common.{ℕ, List, Ok, inr, subst}
use Rattle.xn_model.specs.Types.{Types}
use Rattle.treefs_session.specs.Pieces.{WritesAll}
use Rattle.treefs_session.specs.Puts.{Names}
use Rattle.treefs_session.specs.declared.calls.bytes.Target.TheVariants.{Begun}
use Rattle.treefs_session.proofs.session.Session.write_and_name.Goals as goal

pub returns-clause-does : goal.returns-clause-does
returns-clause-does g c =
    let T = g.S.Store.types_of c.args.self.now.store in
    let old = g.S.Store.state_of c.args.self.now.store in
    let middle = g.S.Store.state_of c.write_all.new.self.store in
    let new = g.S.Store.state_of c.make.new.self.store in
    let volume = c.args.self.now.volume in
    let between = c.write_all.new.self.volume in
    let writes = subst (λ (bytes : List ℕ). WritesAll T c.args.held.now (Begun c.args.block 384) bytes old middle volume between (Ok tt)) c.behind-rest.ensures c.in_default.ensures.does in
    let names = subst (λ (t : Types). Names t c.args.held.now c.args.put.now c.args.block middle new between c.make.new.self.volume c.make.result) c.write_all.ensures.types c.make.ensures.does in
    inr (middle, between, writes, names)
