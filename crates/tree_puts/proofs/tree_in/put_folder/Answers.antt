use Rattle.std.proofs.Common.{◌≡◌, ◌∙◌, ◌^◌, ◌-◌, ◌≤◌, arith, inl, inr, length, map, refl}
use Rattle.std.proofs.lemmas.Result.{err_from_is_err_and}
use Rattle.tree_puts.specs.Folders.{entered}
use Rattle.tree_puts.proofs.Stepped.{none_brought, none_waits, one_brought, stopped}
use Rattle.tree_puts.proofs.Unchanged.{none_changed}
use Rattle.tree_puts.proofs.tree_in.put_folder.Goals as goal
use Rattle.tree_puts.proofs.tree_in.put_folder.Goals.{else-loop-step-test, then-loop-step-test+in_default}

pub returns-in_err-push-clause-does : goal.returns-in_err-push-clause-does
returns-in_err-push-clause-does g c wide =
    let p = err_from_is_err_and c.from_residual.result c.from_residual.ensures.1 in
    rw p.1 (inl (p.2, none_changed _))

pub loop-step-init : goal.loop-step-init
loop-step-init g c = record {
  types = refl;
  folder = refl;
  brings = λ wide. none_brought (length c.args.piece.now) c.args.frame c.push.new.self.items c.new-frames.result.items c.in_ok-push.ensures.items
      c.new-frames.ensures.items _;
}

pub returns-in_err-step-clause-does : goal.returns-in_err-step-clause-does
returns-in_err-step-clause-does g c wide =
    let before = c.loop-step in
    let wide' : 384 ≤ length before.piece = omega (arith, wide, before.auto.piece) in
    stopped (length c.args.piece.now) (entered c.args.frame) _ before._step before.frames.items c.pop.new.self.items c.in-Some.last c.pop.result
    c.pop.ensures.items c.in-Some.is _ _ (before.invariant.brings wide) (length before.piece) before.auto.piece _ c.in_err-step.field-0.0
    (c.in_err-step.ensures.does wide') c.from_residual-in_err-step.result c.from_residual-in_err-step.ensures.1

pub loop-step-preserved : goal.loop-step-preserved
loop-step-preserved g c =
    let before = c.loop-step in record {
      types = c.step.ensures.types ∙ before.invariant.types;
      folder = c.step.ensures.folder ∙ before.invariant.folder;
      brings = λ wide.
          let wide' : 384 ≤ length before.piece = omega (arith, wide, before.auto.piece) in
          one_brought (length c.args.piece.now) (entered c.args.frame) _ before._step before.frames.items c.pop.new.self.items c.in-Some.last c.pop.result
          c.pop.ensures.items c.in-Some.is _ _ (before.invariant.brings wide) (length before.piece) before.auto.piece _ (c.in_ok-step.ensures.does wide');
    }

pub returns-clause-does : goal.returns-clause-does
returns-clause-does g c wide =
    let before = c.loop-step in
    elim c.loop-step-test.branch [
      | else-loop-step-test w ↦
          let all : before._step ≡ 2 ^ 64 - 1 = omega (arith, w.loop-step-test.false, before.auto._step-end) in
          (before._step, map entered before.frames.items, before.invariant.brings wide, inr all)
      | then-loop-step-test+in_default w ↦ (
        before._step,
        map entered before.frames.items,
        before.invariant.brings wide,
        inl (none_waits entered before.frames.items (omega (arith, before.frames.ok.0, w.in_default.ensures.cases.0))),
      )
    ]
