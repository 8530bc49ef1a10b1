use Rattle.std.proofs.Common.{Some, ap, sym}
use Rattle.xn_state.proofs.Writing.{settled_whole}
use Rattle.xn_state.proofs.lives.writes.settled_as_newest.Goals as goal

pub returns-then-count-facts-clause-count : goal.returns-then-count-facts-clause-count
returns-then-count-facts-clause-count c =
    sym (settled_whole (Some (Some c.args.life.now)) c.facts-facts.result c.in-Some.count (ap (λ f. Some f) c.facts-facts.ensures.facts) c.facts-facts.ensures.begun c.in-Some.is c.if-count-facts.true)
