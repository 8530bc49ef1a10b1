use Rattle.std.proofs.Common.{ℕ, ◌∙◌, ⊎_elim, sym, ap, subst, arith, length, Some, None}
use Rattle.std.proofs.lemmas.Bool.{false≢true, false_from_ne_true, true_from_ne_false}
use Rattle.std.proofs.lemmas.List.{length-set}
use Rattle.xn_model.specs.Worlds as model
use Rattle.world.specs.Worlds.{Tickets, IsWorld, value_of, world_of}
use Rattle.world.proofs.Places.{put_back, set_still}
use Rattle.world.proofs.Stepping.{finish_without, open_step, finish_step, finish_world, is_ours, block_is, within_tickets, calm_read, settled_at_block, never_refused}
use Rattle.world.proofs.Views.{seen}
use Rattle.world.proofs.running.Running.finish.Goals as goal
use Rattle.world.proofs.running.Running.finish.Goals.{After-put, In-Ok}
use Rattle.world.proofs.running.Running.finish.Given.{Over}

pub returns-in_default : goal.returns-in_default
returns-in_default g c =
    let none = sym c.take.ensures.ticket ∙ c.in_default.is in
    let still = c.take.ensures.rest ∙ set_still c.self.inside.tickets c.args.block None none in
    seen (value_of c.self.inside.kernel c.self.inside.tickets) c.args.self.now c.self.view_is (model.Finish c.args.block) model.NoTicket _
    (subst (λ (ts : Tickets). model.AfterCall (world_of c.self.inside.kernel c.self.inside.tickets) (model.Finish c.args.block) model.NoTicket (world_of c.self.inside.kernel ts)) (sym still)
    (finish_without c.self.inside.kernel c.self.inside.tickets c.self.invariant c.args.block none))

pub invariant_of-self : goal.invariant_of-self
invariant_of-self g c =
    let none = sym c.take.ensures.ticket ∙ c.in_default.is in
    let still = c.take.ensures.rest ∙ set_still c.self.inside.tickets c.args.block None none in
    subst (λ (ts : Tickets). IsWorld c.self.inside.kernel ts) (sym still) c.self.invariant

-- the write that was under way

finished : (g : Over) (c : In-Ok g) →
    model.AfterCall (world_of c.self.inside.kernel c.self.inside.tickets) (model.Finish c.args.block) (model.Finished c.in-Ok.landed.durable c.in-Ok.landed.freed) (world_of c.finish.new.self c.take.new.self)
    × IsWorld c.finish.new.self c.take.new.self
finished g c =
    let kernel = c.self.inside.kernel in
    let tickets = c.self.inside.tickets in
    let ticket = c.into_ticket.result in
    let has = sym c.take.ensures.ticket ∙ (c.in-Some.is ∙ ap (λ t. Some t) (sym c.into_ticket.ensures)) in
    let ours = is_ours kernel tickets c.self.invariant c.args.block ticket has in
    let rests = false_from_ne_true ticket.unsynced (λ e. c.in-Ok.ensures.unsynced ours e) in
    let given = c.in-Ok.ensures.given in
    let done : ℕ × ℕ = (c.in-Ok.landed.durable, c.in-Ok.landed.freed) in
    let settled = settled_at_block kernel tickets c.self.invariant c.args.block ticket has c.finish.new.self.state done
    (⊎_elim (λ gives. gives) (λ none. absurd none) (c.in-Ok.ensures.mine ours rests)) in
    let block = block_is kernel tickets c.self.invariant c.args.block ticket has in
    rw (c.take.ensures.rest, given.4, block) (
      finish_step kernel tickets c.self.invariant c.args.block ticket has rests given.0 given.3.1 done c.finish.new.self.state settled,
      finish_world kernel tickets c.self.invariant c.args.block ticket has rests given.0 given.3.1 done c.finish.new.self.state settled,
    )

pub returns-in-Ok : goal.returns-in-Ok
returns-in-Ok g c =
    seen (value_of c.self.inside.kernel c.self.inside.tickets) c.args.self.now c.self.view_is (model.Finish c.args.block) (model.Finished c.in-Ok.landed.durable c.in-Ok.landed.freed) _
    (finished g (goal.at.returns-in-Ok g c).In-Ok).0

pub invariant_of-self-in-Ok : goal.invariant_of-self-in-Ok
invariant_of-self-in-Ok g c = (finished g (goal.at.invariant_of-self-in-Ok g c).In-Ok).1

-- or that goes on, as it isn't synced

pub put-requires : goal.put-requires
put-requires g c =
    let has = sym c.take.ensures.ticket ∙ (c.in-Some.is ∙ ap (λ t. Some t) (sym c.into_ticket.ensures)) in
    let within = within_tickets c.self.inside.kernel c.self.inside.tickets c.self.invariant c.args.block c.into_ticket.result has in
    let long = ap length c.take.ensures.rest ∙ length-set c.self.inside.tickets c.args.block None in
    omega arith

unread : (g : Over) (c : After-put g) →
    model.AfterCall (world_of c.self.inside.kernel c.self.inside.tickets) (model.Finish c.args.block) (model.Refused c.in-Err.refusal) (world_of c.finish.new.self c.put.new.self)
    × IsWorld c.finish.new.self c.put.new.self
unread g c =
    let kernel = c.self.inside.kernel in
    let tickets = c.self.inside.tickets in
    let ticket = c.into_ticket.result in
    let has = sym c.take.ensures.ticket ∙ (c.in-Some.is ∙ ap (λ t. Some t) (sym c.into_ticket.ensures)) in
    let ours = is_ours kernel tickets c.self.invariant c.args.block ticket has in
    let unsynced = true_from_ne_false ticket.unsynced (λ rests. ⊎_elim
    (λ gives. never_refused kernel tickets c.self.invariant c.args.block ticket has c.finish.new.self.state c.in-Err.refusal gives)
    (λ device. false≢true (sym (calm_read kernel tickets c.self.invariant c.args.block ticket has) ∙ (c.in-Err.ensures.unread device.0).1.0))
    (c.in-Err.ensures.mine ours rests)) in
    let told = c.in-Err.ensures.unsynced ours unsynced in
    let still = put_back tickets c.args.block ticket has c.take.new.self c.new.result c.put.new.self c.take.ensures.rest (c.new.ensures ∙ told.0) c.put.ensures in
    rw (still, c.in-Err.ensures.err, told.1) (open_step kernel tickets c.self.invariant c.args.block ticket has unsynced, c.self.invariant)

pub invariant_of-self-in-Err : goal.invariant_of-self-in-Err
invariant_of-self-in-Err g c = (unread g (goal.at.invariant_of-self-in-Err g c).After-put).1

pub returns-in-Err : goal.returns-in-Err
returns-in-Err g c =
    seen (value_of c.self.inside.kernel c.self.inside.tickets) c.args.self.now c.self.view_is (model.Finish c.args.block) (model.Refused c.in-Err.refusal) _
    (unread g (goal.at.returns-in-Err g c).After-put).0
