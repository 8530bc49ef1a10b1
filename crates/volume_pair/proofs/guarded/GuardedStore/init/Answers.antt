use Rattle.std.proofs.Common.{subst}
use Rattle.xn_model.specs.Rules.{IsConsistent}
use Rattle.volume_pair.specs.Kept.{IsKept}
use Rattle.volume_pair.proofs.Kept.{if_some, retyped, retyped_library, init_has, init_keeps}
use Rattle.volume_pair.proofs.guarded.GuardedStore.init.Goals as goal

pub invariant_of-self : goal.invariant_of-self
invariant_of-self g c =
    let state_of = g.S.Store.state_of in
    let new = c.init.new.self in
    let ensures = c.init.ensures in
    let h = subst (λ U. IsConsistent U (state_of new)) ensures.types ensures.rules in (
      retyped_library _ _ (state_of new) ensures.types (init_has _ (state_of _) (state_of new) c.self.invariant.0 c.args.fs.number c.args.ty c.args.bytes.now c.init.result ensures.state),
      if_some (λ o. IsKept _ (state_of _) o.fs.number o.volume) (λ o. IsKept _ (state_of new) o.fs.number o.volume) c.self.inside.other
          (λ o is k. retyped _ _ (state_of new) o.fs.number o.volume ensures.types (init_keeps _ (state_of _) (state_of new) h o.fs.number o.volume k c.args.fs.number c.args.ty c.args.bytes.now c.init.result ensures.state)) c.self.invariant.1,
    )
