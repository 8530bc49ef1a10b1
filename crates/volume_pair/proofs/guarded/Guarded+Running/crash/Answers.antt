use Rattle.std.proofs.Common.{◌≡◌, None, subst, sym, IsSomeAnd}
use Rattle.xn_state.specs.States.{own_types}
use Rattle.world.specs.Worlds.{WorldValue}
use Rattle.volume_pair.specs.Kept.{HasLibrary, IsKept, Recovers}
use Rattle.volume_pair.proofs.Crashed.{recovered}
use Rattle.volume_pair.proofs.Kept.{if_some, some_and}
use Rattle.volume_pair.proofs.guarded.Guarded+Running.crash.Goals as goal

pub crashed-requires-clause-library : goal.crashed-requires-clause-library
crashed-requires-clause-library g c κs h = subst (λ (v : WorldValue). HasLibrary (own_types v.state) v.state) (sym c.into_parts-running.ensures.store) c.into_parts-running.ensures.has

pub returns : goal.returns
returns g c =
    let store = c.in_ok-store.store in
    subst (λ (v : WorldValue). Recovers (own_types v.state) v.state (own_types store.state) store.state) c.into_parts-running.ensures.store
    (recovered (own_types c.into_parts-running.result.0.state) c.into_parts-running.result.0.state (own_types c.in_ok-running.running.state) c.in_ok-running.running.state (own_types store.state) store.state
    c.in_ok-store.ensures.has c.in_ok-running.ensures.keeps c.in_ok-store.ensures.keeps)

pub invariant_of-result : goal.invariant_of-result
invariant_of-result g c =
    let store = c.in_ok-store.store in
    let recovers = returns g c in (
      recovers.has,
      if_some (λ o. (o.volume ≡ None) × IsSomeAnd c.into_parts-running.result.1 (λ before. before.fs ≡ o.fs)) (λ o. IsKept (own_types store.state) store.state o.fs.number o.volume) c.closed-other.result
          (λ o is x.
          let b = some_and (λ before. before.fs ≡ o.fs) (λ before. IsKept (own_types c.args.self.state) c.args.self.state before.fs.number before.volume) c.into_parts-running.result.1 x.1 c.into_parts-running.ensures.other in
          rw (x.0, ← b.1) (recovers.kept b.0.fs.number b.0.volume b.2)) c.closed-other.ensures,
    )
