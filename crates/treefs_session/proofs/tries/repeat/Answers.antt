use Rattle.std.proofs.Common.{◌≡◌, ℕ, ◌+◌, ◌-◌, ◌<◌, ◌∙◌, Err, None, Some, arith, subst}
use Rattle.xn_model.specs.Types.{Types}
use Rattle.treefs_session.specs.Tries.{Tries, TriesOnce, most_tries}
use Rattle.treefs_session.proofs.Tried.{last_try, no_try, one_try, tries_are}
use Rattle.treefs_session.proofs.tries.repeat.Goals as goal

pub returns-in-Some-clause-does : goal.returns-in-Some-clause-does
returns-in-Some-clause-does g c =
    let T = g.S.Store.types_of c.args.store.now in
    let Does = λ (t : Types). g.C.Call.does c.args.call.now t in
    let old = g.S.Store.state_of c.loop-try.store in
    let new = g.S.Store.state_of c.try_once.new.store in
    let left : 0 < most_tries - c.loop-try._try = omega (arith, tries_are) in
    let try = subst (λ (t : Types). TriesOnce (Does t) t old new c.loop-try.volume c.try_once.new.volume (Some c.in-Some.answer)) c.loop-try.invariant.types c.in-Some.ensures.does in
    c.loop-try.invariant.goes new c.try_once.new.volume c.in-Some.answer
    (last_try (Does T) T (most_tries - c.loop-try._try) old new c.loop-try.volume c.try_once.new.volume c.in-Some.answer left try)

pub loop-try-preserved : goal.loop-try-preserved
loop-try-preserved g c =
    let T = g.S.Store.types_of c.args.store.now in
    let Does = λ (t : Types). g.C.Call.does c.args.call.now t in
    let old = g.S.Store.state_of c.loop-try.store in
    let middle = g.S.Store.state_of c.try_once.new.store in
    let between = c.try_once.new.volume in
    let left : 0 < most_tries - c.loop-try._try = omega (arith, tries_are) in
    let less : most_tries - (c.loop-try._try + 1) ≡ most_tries - c.loop-try._try - 1 = omega arith in
    let try = subst (λ (t : Types). TriesOnce (Does t) t old middle c.loop-try.volume between None) c.loop-try.invariant.types c.in_default.ensures.does in
    record {
      types = c.try_once.ensures.types ∙ c.loop-try.invariant.types;
      goes = λ new volume result h. c.loop-try.invariant.goes new volume result
          (one_try (Does T) T (most_tries - c.loop-try._try) old middle new c.loop-try.volume between volume result left try
          (subst (λ (k : ℕ). Tries (Does T) T k middle new between volume result) less h));
    }

pub returns-clause-does : goal.returns-clause-does
returns-clause-does g c =
    let T = g.S.Store.types_of c.args.store.now in
    let Does = λ (t : Types). g.C.Call.does c.args.call.now t in
    let old = g.S.Store.state_of c.loop-try.store in
    let none : most_tries - c.loop-try._try ≡ 0 = omega (arith, tries_are) in
    c.loop-try.invariant.goes old c.loop-try.volume (Err _) (no_try (Does T) T (most_tries - c.loop-try._try) old c.loop-try.volume none)
