use Rattle.std.proofs.Common.{◌<◌, length, get_or, take, sym, subst, arith}
use Rattle.std.specs.Prelude.{All}
use Rattle.std.proofs.lemmas.List.{take_more, take_all}
use Rattle.std.proofs.lemmas.List.Elements.{All-push}
use Rattle.xn_model.specs.Worlds as model
use Rattle.xn_state.specs.Events.{event_of}
use Rattle.world.proofs.world.are_events.Goals as goal

pub loop-at-preserved : goal.loop-at-preserved
loop-at-preserved c =
    let es = c.args.events.now in
    let at = c.loop-at.at in
    let within : at < length es = c.loop-at-test.true in
    subst (All (λ e. model.IsEvent (event_of e))) (sym (take_more es at c.index-events-at.result within))
    (All-push (λ e. model.IsEvent (event_of e)) (take at es) (get_or es at c.index-events-at.result) c.loop-at.invariant (subst (λ e. model.IsEvent (event_of e)) c.index-events-at.is c.is_event.ensures))

pub returns : goal.returns
returns c = subst (All (λ e. model.IsEvent (event_of e))) (take_all c.loop-at.at c.args.events.now (let past = c.loop-at-test.false in omega arith)) c.loop-at.invariant
