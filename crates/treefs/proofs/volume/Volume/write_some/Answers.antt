use Rattle.std.proofs.Common.{Err, Ok, Result, inr, refl, subst}
use Rattle.xn_model.specs.Types.{Types}
use Rattle.treefs_model.specs.declared.fault.Fault.{Fault}
use Rattle.treefs_byte_plans.specs.Writes.{Step, step_of}
use Rattle.treefs.specs.Writing.{StepDoes}
use Rattle.treefs.proofs.volume.Volume.write_some.Goals as goal

pub returns-in-Ok-clause-does : goal.returns-in-Ok-clause-does
returns-in-Ok-clause-does g c =
    let T = g.S.Store.types_of c.args.store.now in
    let middle = g.S.Store.state_of c.trim_first.new.store in
    let new = g.S.Store.state_of c.take_step.new.store in
    let taken = subst (λ (t : Types). StepDoes t middle new c.args.self.now c.take_step.new.self c.args.number c.args.bytes.now (Ok (step_of c.in-Ok.step)) c.take_step.result) c.trim_first.ensures.types c.take_step.ensures.does in (
      c.trim_to_write-kept.result,
      c.trim_to_write-kept.ensures.kept,
      inr (
        middle,
        c.in_default.ensures.does,
        subst (λ (p : Result Step Fault). StepDoes T middle new c.args.self.now c.take_step.new.self c.args.number c.args.bytes.now p c.take_step.result) c.in-Ok.ensures.planned taken,
      ),
    )

pub returns-in-Err-plan_write-clause-does : goal.returns-in-Err-plan_write-clause-does
returns-in-Err-plan_write-clause-does g c =
    let T = g.S.Store.types_of c.args.store.now in
    let middle = g.S.Store.state_of c.trim_first.new.store in (
      c.trim_to_write-kept.result,
      c.trim_to_write-kept.ensures.kept,
      inr (
        middle,
        c.in_default.ensures.does,
        subst (λ (p : Result Step Fault). StepDoes T middle middle c.args.self.now c.args.self.now c.args.number c.args.bytes.now p (Err c.in-Err-plan_write.fault)) c.in-Err-plan_write.ensures.planned (refl, refl, refl),
      ),
    )
