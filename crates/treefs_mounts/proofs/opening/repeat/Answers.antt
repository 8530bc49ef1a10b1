use Rattle.std.proofs.Common.{◌≡◌, ℕ, ◌+◌, ◌-◌, ◌<◌, ◌∙◌, Err, Ok, Bool, arith, subst}
use Rattle.xn_model.specs.Types.{Types}
use Rattle.treefs_model.specs.declared.fault.Fault.TheVariants.{Full}
use Rattle.treefs_mounts.specs.Opening.{Repeats, RoundDoes, most_rounds}
use Rattle.treefs_mounts.proofs.Rounds.{last_done, last_fault, no_round, one_round, rounds_are}
use Rattle.treefs_mounts.proofs.opening.repeat.Goals as goal

pub returns-in-Ok-true-clause-does : goal.returns-in-Ok-true-clause-does
returns-in-Ok-true-clause-does g c =
    let T = g.S.Store.types_of c.args.store.now in
    let old = g.S.Store.state_of c.loop-round.store in
    let new = g.S.Store.state_of c.make_round.new.store in
    let volume = c.make_round.new.volume in
    let left : 0 < most_rounds - c.loop-round._round = omega (arith, rounds_are) in
    let made = subst (λ (t : Types). RoundDoes c.args.pass t old new c.loop-round.volume volume (Ok c.in-Ok-true.field-0)) c.loop-round.invariant.types c.in-Ok-true.ensures.does in
    let round = subst (λ (b : Bool). RoundDoes c.args.pass T old new c.loop-round.volume volume (Ok b)) c.in-Ok-true.field-0-test made in
    c.loop-round.invariant.goes new volume (Ok tt) (last_done c.args.pass T (most_rounds - c.loop-round._round) old new c.loop-round.volume volume left round)

pub returns-in-Err-clause-does : goal.returns-in-Err-clause-does
returns-in-Err-clause-does g c =
    let T = g.S.Store.types_of c.args.store.now in
    let old = g.S.Store.state_of c.loop-round.store in
    let new = g.S.Store.state_of c.make_round.new.store in
    let volume = c.make_round.new.volume in
    let fault = c.in-Err.fault in
    let left : 0 < most_rounds - c.loop-round._round = omega (arith, rounds_are) in
    let round = subst (λ (t : Types). RoundDoes c.args.pass t old new c.loop-round.volume volume (Err fault)) c.loop-round.invariant.types c.in-Err.ensures.does in
    c.loop-round.invariant.goes new volume (Err fault)
    (last_fault c.args.pass T (most_rounds - c.loop-round._round) old new c.loop-round.volume volume fault left round)

pub loop-round-preserved : goal.loop-round-preserved
loop-round-preserved g c =
    let T = g.S.Store.types_of c.args.store.now in
    let old = g.S.Store.state_of c.loop-round.store in
    let middle = g.S.Store.state_of c.make_round.new.store in
    let between = c.make_round.new.volume in
    let left : 0 < most_rounds - c.loop-round._round = omega (arith, rounds_are) in
    let less : most_rounds - (c.loop-round._round + 1) ≡ most_rounds - c.loop-round._round - 1 = omega arith in
    let made = subst (λ (t : Types). RoundDoes c.args.pass t old middle c.loop-round.volume between (Ok c.in-Ok-false.field-0)) c.loop-round.invariant.types c.in-Ok-false.ensures.does in
    let round = subst (λ (b : Bool). RoundDoes c.args.pass T old middle c.loop-round.volume between (Ok b)) c.in-Ok-false.field-0-test made in
    record {
      types = c.make_round.ensures.types ∙ c.loop-round.invariant.types;
      goes = λ new volume result h. c.loop-round.invariant.goes new volume result
          (one_round c.args.pass T (most_rounds - c.loop-round._round) old middle new c.loop-round.volume between volume result left round
          (subst (λ (k : ℕ). Repeats c.args.pass T k middle new between volume result) less h));
    }

pub returns-clause-does : goal.returns-clause-does
returns-clause-does g c =
    let T = g.S.Store.types_of c.args.store.now in
    let old = g.S.Store.state_of c.loop-round.store in
    let none : most_rounds - c.loop-round._round ≡ 0 = omega (arith, rounds_are) in
    c.loop-round.invariant.goes old c.loop-round.volume (Err Full) (no_round c.args.pass T (most_rounds - c.loop-round._round) old c.loop-round.volume none)
