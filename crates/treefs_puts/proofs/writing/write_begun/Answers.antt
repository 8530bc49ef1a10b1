use Rattle.std.proofs.Common.{Err, Ok, Result, inr, refl, subst}
use Rattle.xn_model.specs.Types.{Types}
use Rattle.treefs_model.specs.declared.fault.Fault.{Fault}
use Rattle.treefs_byte_plans.specs.Writes.{Step, step_of}
use Rattle.treefs_puts.specs.Writing.{StepWrites}
use Rattle.treefs_puts.proofs.writing.write_begun.Goals as goal

pub returns-in-Ok-clause-does : goal.returns-in-Ok-clause-does
returns-in-Ok-clause-does g c =
    let T = g.S.Store.types_of c.args.store.now in
    let fs = c.args.volume.now.tree.fs.number in
    let middle = g.S.Store.state_of c.trim_first.new.store in
    let new = g.S.Store.state_of c.write_step.new.store in
    let writes = subst (λ (t : Types). StepWrites t fs c.args.bytes.now (Ok (step_of c.in-Ok.step)) middle new c.write_step.result) c.trim_first.ensures.types c.write_step.ensures.does in (
      c.trim_to_write_begun-kept.result,
      c.trim_to_write_begun-kept.ensures.kept,
      inr (
        middle,
        c.in_default.ensures.does,
        subst (λ (p : Result Step Fault). StepWrites T fs c.args.bytes.now p middle new c.write_step.result) c.in-Ok.ensures.planned writes,
      ),
    )

pub returns-in-Err-plan_write_begun-clause-does : goal.returns-in-Err-plan_write_begun-clause-does
returns-in-Err-plan_write_begun-clause-does g c =
    let T = g.S.Store.types_of c.args.store.now in
    let fs = c.args.volume.now.tree.fs.number in
    let middle = g.S.Store.state_of c.trim_first.new.store in (
      c.trim_to_write_begun-kept.result,
      c.trim_to_write_begun-kept.ensures.kept,
      inr (
        middle,
        c.in_default.ensures.does,
        subst (λ (p : Result Step Fault). StepWrites T fs c.args.bytes.now p middle middle (Err c.in-Err-plan_write_begun.fault)) c.in-Err-plan_write_begun.ensures.planned (refl, refl),
      ),
    )
