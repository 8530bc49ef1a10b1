use Rattle.std.proofs.Common.{◌≡◌, ◌≤◌, ◌<◌, ◌+◌, ◌∙◌, ap, arith, map, length, subst, refl, vec_len, rules}
use Rattle.std.specs.Vec.{vec_capacity}
use Rattle.std.proofs.lemmas.List.{take_all}
use Rattle.xn_model.specs.Worlds.{Run, Step}
use Rattle.xn_model.specs.Rules.{Holds}
use Rattle.xn_state.specs.Events.{event_of, reply_of}
use Rattle.world.specs.Worlds.{world_with}
use Rattle.world.proofs.Tellings.{are_events, ran_told}
use Rattle.world.proofs.Runs.{ran_more, rules_agree, rules_sound}
use Rattle.world.proofs.world.World.run.Goals as goal

pub returns-in_err-replies-clause-rules : goal.returns-in_err-replies-clause-rules
returns-in_err-replies-clause-rules g c = c.rules.ensures

pub returns-in_err-replies-clause-agrees : goal.returns-in_err-replies-clause-agrees
returns-in_err-replies-clause-agrees g c = rules_agree c.args.self.now c.rules.ensures

pub returns-in_err-replies-clause-sound : goal.returns-in_err-replies-clause-sound
returns-in_err-replies-clause-sound g c = rules_sound c.args.self.now c.rules.ensures

pub loop-at-init : goal.loop-at-init
loop-at-init g c =
    let holds : Holds (world_with c.args.self.now) = c.rules.ensures in
    (rw c.in_ok-replies.ensures.items refl, holds, c.in_ok-replies.ensures.len, search rules)

pub push_reserved-requires : goal.push_reserved-requires
push_reserved-requires g c =
    let len : vec_len c.loop-at.replies ≡ c.loop-at.at = c.loop-at.invariant.2 in
    let room : length c.args.events.now ≤ vec_capacity c.loop-at.replies = c.loop-at.invariant.3 in
    let more = c.loop-at-test.true in
    omega arith

pub loop-at-preserved : goal.loop-at-preserved
loop-at-preserved g c =
    let within : c.loop-at.at < length c.args.events.now = c.loop-at-test.true in
    let before : vec_len c.loop-at.replies ≡ c.loop-at.at = c.loop-at.invariant.2 in
    let room : length c.args.events.now ≤ vec_capacity c.loop-at.replies = c.loop-at.invariant.3 in
    let step = subst (λ event. Step (world_with c.loop-at.self) (event_of event) (reply_of c.step-reply.result) (world_with c.step-reply.new.self)) c.index-events-at.is c.step-reply.ensures.step in
    let ran = ran_more c.args.self.now c.loop-at.self c.step-reply.new.self c.args.events.now c.loop-at.at c.index-events-at.result c.loop-at.replies.items c.push_reserved.new.self.items c.step-reply.result
    within c.push_reserved.ensures.items c.loop-at.invariant.0 step in
    (ran, c.step-reply.ensures.rules, c.push_reserved.ensures.len ∙ ap (λ n. n + 1) before, rw c.push_reserved.ensures.capacity room)

pub returns-clause-run : goal.returns-clause-run
returns-clause-run g c =
    let past : length c.args.events.now ≤ c.loop-at.at = omega (arith, c.loop-at-test.false) in
    subst (λ es. Run (world_with c.args.self.now) (map event_of es) (map reply_of c.loop-at.replies.items) (world_with c.loop-at.self)) (take_all c.loop-at.at c.args.events.now past) c.loop-at.invariant.0

pub returns-clause-told : goal.returns-clause-told
returns-clause-told g c =
    let past : length c.args.events.now ≤ c.loop-at.at = omega (arith, c.loop-at-test.false) in
    let run = subst (λ es. Run (world_with c.args.self.now) (map event_of es) (map reply_of c.loop-at.replies.items) (world_with c.loop-at.self)) (take_all c.loop-at.at c.args.events.now past) c.loop-at.invariant.0 in
    λ hs m. ran_told (world_with c.args.self.now) (world_with c.loop-at.self) hs m (map event_of c.args.events.now) (map reply_of c.loop-at.replies.items) (are_events c.args.events.now c.are_events.ensures) run

pub returns-clause-rules : goal.returns-clause-rules
returns-clause-rules g c = c.loop-at.invariant.1

pub returns-clause-agrees : goal.returns-clause-agrees
returns-clause-agrees g c = rules_agree c.loop-at.self c.loop-at.invariant.1

pub returns-clause-sound : goal.returns-clause-sound
returns-clause-sound g c = rules_sound c.loop-at.self c.loop-at.invariant.1
