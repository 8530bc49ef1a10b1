use Rattle.std.proofs.Common.{rules, subst}
use Rattle.shared.specs.Hubs.{IsHub}
use Rattle.shared.proofs.Turns.{finishes, finish_refused}
use Rattle.shared.proofs.flusher.Flusher+Hub+L+K+G.finish.Goals as goal

pub returns-clause-ok : goal.returns-clause-ok
returns-clause-ok g c =
    finishes g.L.Lane.bytes_of g.L.Lane.crash_leaves g.L.Lane.faults_of g.L.Lane.read_gives
    (λ landed. landed.durable) (λ landed. landed.freed) _ _ _ c.deref_mut.result.now c.finish.new.self.kernel.state
    c.args.ticket c.finish.result
    (subst (IsHub g.L.Lane.bytes_of g.L.Lane.crash_leaves) (search rules) c.is_sound.ensures) c.requires c.finish.ensures.foreign c.finish.ensures.mine c.finish.ensures.given

pub returns-clause-err : goal.returns-clause-err
returns-clause-err g c =
    finish_refused g.L.Lane.bytes_of g.L.Lane.crash_leaves g.L.Lane.faults_of g.L.Lane.read_gives
    (λ landed. landed.durable) (λ landed. landed.freed) c.deref_mut.result.now c.finish.new.self.kernel.state
    c.args.ticket c.finish.result
    (subst (IsHub g.L.Lane.bytes_of g.L.Lane.crash_leaves) (search rules) c.is_sound.ensures) c.requires c.finish.ensures.foreign c.finish.ensures.mine c.finish.ensures.back c.finish.ensures.unread
