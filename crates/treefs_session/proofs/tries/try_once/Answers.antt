use Rattle.std.proofs.Common.{Option, None, Some, inr, refl, subst}
use Rattle.xn_model.specs.Types.{Types}
use Rattle.treefs_model.specs.declared.fault.Fault.{Fault}
use Rattle.treefs_session.specs.Tries.{RoomAfter}
use Rattle.treefs_session.proofs.tries.try_once.Goals as goal

pub returns-in-Some-clause-does : goal.returns-in-Some-clause-does
returns-in-Some-clause-does g c =
    let middle = g.S.Store.state_of c.make.new.store in
    let between = c.make.new.volume in
    let new = g.S.Store.state_of c.room_after.new.store in
    let told : Option Fault = Some c.in-Some.told in
    let room = subst (λ (t : Types). RoomAfter t middle new between c.room_after.new.volume c.in-Err.fault told) c.make.ensures.types c.in-Some.ensures.does in
    inr (c.in-Err.fault, middle, between, told, c.in-Err.ensures.does, room, refl)

pub returns-in-None-clause-does : goal.returns-in-None-clause-does
returns-in-None-clause-does g c =
    let middle = g.S.Store.state_of c.make.new.store in
    let between = c.make.new.volume in
    let new = g.S.Store.state_of c.room_after.new.store in
    let told : Option Fault = None in
    let room = subst (λ (t : Types). RoomAfter t middle new between c.room_after.new.volume c.in-Err.fault told) c.make.ensures.types c.in-None.ensures.does in
    inr (c.in-Err.fault, middle, between, told, c.in-Err.ensures.does, room, refl)
