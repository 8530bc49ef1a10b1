use Rattle.std.proofs.Common.{Err, Ok, Result, inr, refl, subst}
use Rattle.xn_model.specs.Types.{Types}
use Rattle.treefs_model.specs.declared.fault.Fault.{Fault}
use Rattle.treefs_byte_plans.specs.declared.size.SizePlan.{SizePlan}
use Rattle.treefs.specs.Sizing.{SizeDoes}
use Rattle.treefs.proofs.volume.Volume.truncate.Goals as goal

pub returns-in-Ok-clause-does : goal.returns-in-Ok-clause-does
returns-in-Ok-clause-does g c =
    let T = g.S.Store.types_of c.args.store.now in
    let middle = g.S.Store.state_of c.trim_first.new.store in
    let new = g.S.Store.state_of c.set_size.new.store in
    let sized = subst (λ (t : Types). SizeDoes t middle new c.args.self.now c.set_size.new.self c.args.number (Ok c.in-Ok.plan) c.set_size.result) c.trim_first.ensures.types c.set_size.ensures.does in (
      c.trim_to_truncate-kept.result,
      c.trim_to_truncate-kept.ensures.kept,
      inr (
        middle,
        c.in_default.ensures.does,
        subst (λ (p : Result SizePlan Fault). SizeDoes T middle new c.args.self.now c.set_size.new.self c.args.number p c.set_size.result) c.in-Ok.ensures.planned sized,
      ),
    )

pub returns-in-Err-plan_truncate-clause-does : goal.returns-in-Err-plan_truncate-clause-does
returns-in-Err-plan_truncate-clause-does g c =
    let T = g.S.Store.types_of c.args.store.now in
    let middle = g.S.Store.state_of c.trim_first.new.store in (
      c.trim_to_truncate-kept.result,
      c.trim_to_truncate-kept.ensures.kept,
      inr (
        middle,
        c.in_default.ensures.does,
        subst (λ (p : Result SizePlan Fault). SizeDoes T middle middle c.args.self.now c.args.self.now c.args.number p (Err c.in-Err-plan_truncate.fault)) c.in-Err-plan_truncate.ensures.planned (refl, refl, refl),
      ),
    )
