use Rattle.std.proofs.Common.{◌≡◌, ◌≢◌, sym, ◌∙◌, subst, Some, IfSome}
use Rattle.xn_model.specs.Rules.{IsConsistent}
use Rattle.volume_pair.specs.Kept.{IsKept}
use Rattle.volume_pair.proofs.Kept.{if_some, retyped, retyped_library, make_root_has, make_root_keeps}
use Rattle.volume_pair.proofs.guarded.GuardedStore.make_root.Goals as goal

pub invariant_of-self : goal.invariant_of-self
invariant_of-self g c =
    let state_of = g.S.Store.state_of in
    let old = c.self.inside.store in
    let new = c.make_root.new.self in
    let T = g.S.Store.types_of old in
    let ensures = c.make_root.ensures in
    let h = subst (λ U. IsConsistent U (state_of new)) ensures.types ensures.rules in
    let before = c.take.result in (
      retyped_library T _ (state_of new) ensures.types (make_root_has T (state_of old) (state_of new) c.self.invariant.0 c.args.fs.number c.args.block c.make_root.result c.args.fs.few ensures.state),
      if_some (λ o. (before ≡ Some o) × (o.fs.number ≢ c.args.fs.number)) (λ o. IsKept _ (state_of new) o.fs.number o.volume) c.beside-self-inside.result
          (λ o is b.
          let k : IsKept T (state_of old) o.fs.number o.volume = subst (λ x. IfSome x (λ y. IsKept T (state_of old) y.fs.number y.volume)) (sym c.take.ensures.value ∙ b.0) c.self.invariant.1 in
          let apart : c.args.fs.number ≢ o.fs.number = λ e. b.1 (sym e) in
          retyped T _ (state_of new) o.fs.number o.volume ensures.types (make_root_keeps T (state_of old) (state_of new) h o.fs.number o.volume k c.args.fs.number c.args.block c.make_root.result c.args.fs.few apart ensures.state)) c.beside-self-inside.ensures,
    )
