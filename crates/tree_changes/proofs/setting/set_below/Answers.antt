use Rattle.std.proofs.Common.{◌≡◌, ◌∙◌, ◌-◌, ◌^◌, Option, ap, arith, inl, inr, refl, subst}
use Rattle.tree_lines.specs.Trees.{ComesIn}
use Rattle.tree_lines.specs.Walks.{IsUnmet, begun, met_of, progress, step_outcome}
use Rattle.tree_lines.specs.Walks.Outcome.{Meets}
use Rattle.tree_lines.specs.declared.walking.Step.{Step}
use Rattle.tree_changes.proofs.AlongTold.{answers_end, ends_line}
use Rattle.tree_changes.proofs.GoneThrough.{none_set, not_begun, not_further, one_set, set_ends}
use Rattle.tree_changes.proofs.setting.set_below.Goals as goal
use Rattle.tree_changes.proofs.setting.set_below.Goals.{else-loop-name-test, then-loop-name-test+in_ok-step+in_default}

pub returns-in_err-walk-clause-does : goal.returns-in_err-walk-clause-does
returns-in_err-walk-clause-does g c =
    let first = c.args.opened.now in
    not_begun c.args.setting.now (g.S.Store.types_of first.session.store) first.folder c.args.path.now c.args.folder first.told
    (g.S.Store.state_of first.session.store) first.session.volume first.told c.from_residual.result c.from_residual.ensures.0

pub loop-name-init : goal.loop-name-init
loop-name-init g c =
    let first = c.args.opened.now in
    record {
      types = refl;
      folder = refl;
      sets = none_set c.args.setting.now (g.S.Store.types_of first.session.store) first.folder c.args.path.now c.args.folder first.told
          (g.S.Store.state_of first.session.store) first.session.volume (progress c.in_ok-walk.walk)
          (c.in_ok-walk.ensures ∙ ap (λ p. begun p c.args.folder) c.as_bytes.ensures.value);
    }

pub returns-in_err-step-clause-does : goal.returns-in_err-step-clause-does
returns-in_err-step-clause-does g c =
    let first = c.args.opened.now in
    let before = c.loop-name.opened in
    not_further c.args.setting.now (g.S.Store.types_of first.session.store) first.folder c.args.path.now c.args.folder first.told
    (g.S.Store.state_of first.session.store) first.session.volume c.loop-name._name (progress c.loop-name.walk) before.told
    (g.S.Store.state_of before.session.store) before.session.volume c.loop-name.invariant.sets c.next_met.new.told c.from_residual-in_err-step.result
    c.from_residual-in_err-step.ensures.0

pub returns-in_err-go_on-clause-does : goal.returns-in_err-go_on-clause-does
returns-in_err-go_on-clause-does g c =
    let first = c.args.opened.now in
    let before = c.loop-name.opened in
    let after = c.set_node-done.new.opened in
    let state = g.S.Store.state_of before.session.store in
    let volume = before.session.volume in
    let step = c.in-Some.step in
    let comes : ComesIn state volume IsUnmet (progress c.loop-name.walk) before.told (progress c.next_met.new.self) c.next_met.new.told (Meets (met_of step)) =
    subst (λ (o : Option Step). ComesIn state volume IsUnmet (progress c.loop-name.walk) before.told (progress c.next_met.new.self) c.next_met.new.told
    (step_outcome o)) c.in-Some.is c.in_ok-step.ensures.comes in
    set_ends c.args.setting.now (g.S.Store.types_of first.session.store) first.folder c.args.path.now c.args.folder first.told
    (g.S.Store.state_of first.session.store) first.session.volume c.loop-name._name (progress c.loop-name.walk) before.told state volume
    c.loop-name.invariant.sets (g.S.Store.types_of before.session.store) before.folder c.loop-name.invariant.types c.loop-name.invariant.folder
    (progress c.next_met.new.self) c.next_met.new.told after.told c.go_on.new.self (met_of step) comes (g.S.Store.state_of after.session.store)
    after.session.volume c.set_node-done.result c.go_on.result c.set_node-done.ensures.does c.set_node-done.ensures.told c.go_on.ensures
    c.in_err-go_on.field-0.0 c.from_residual-in_err-go_on.result c.in_err-go_on.was c.from_residual-in_err-go_on.ensures.0

pub returns-in_err-go_on-clause-ends : goal.returns-in_err-go_on-clause-ends
returns-in_err-go_on-clause-ends g c =
    let after = c.set_node-done.new.opened in
    let ends = ends_line after.told c.go_on.new.self c.set_node-done.result c.go_on.result c.in_err-go_on.field-0.0 c.go_on.ensures c.in_err-go_on.was in
    answers_end c.in_err-go_on.field-0.0 c.from_residual-in_err-go_on.result ends c.from_residual-in_err-go_on.ensures.1

pub loop-name-preserved : goal.loop-name-preserved
loop-name-preserved g c =
    let first = c.args.opened.now in
    let before = c.loop-name.opened in
    let after = c.set_node-done.new.opened in
    let state = g.S.Store.state_of before.session.store in
    let volume = before.session.volume in
    let step = c.in-Some.step in
    let comes : ComesIn state volume IsUnmet (progress c.loop-name.walk) before.told (progress c.next_met.new.self) c.next_met.new.told (Meets (met_of step)) =
    subst (λ (o : Option Step). ComesIn state volume IsUnmet (progress c.loop-name.walk) before.told (progress c.next_met.new.self) c.next_met.new.told
    (step_outcome o)) c.in-Some.is c.in_ok-step.ensures.comes in
    record {
      types = c.set_node-done.ensures.types ∙ c.loop-name.invariant.types;
      folder = c.set_node-done.ensures.folder ∙ c.loop-name.invariant.folder;
      sets = one_set c.args.setting.now (g.S.Store.types_of first.session.store) first.folder c.args.path.now c.args.folder first.told
          (g.S.Store.state_of first.session.store) first.session.volume c.loop-name._name (progress c.loop-name.walk) before.told state volume
          c.loop-name.invariant.sets (g.S.Store.types_of before.session.store) before.folder c.loop-name.invariant.types c.loop-name.invariant.folder
          (progress c.next_met.new.self) c.next_met.new.told after.told c.go_on.new.self (met_of step) comes (g.S.Store.state_of after.session.store)
          after.session.volume c.set_node-done.result c.go_on.result c.set_node-done.ensures.does c.set_node-done.ensures.told c.go_on.ensures
          c.in_ok-go_on.was;
    }

pub returns-clause-does : goal.returns-clause-does
returns-clause-does g c =
    let before = c.loop-name.opened in
    let state = g.S.Store.state_of before.session.store in
    let volume = before.session.volume in
    let far = progress c.loop-name.walk in
    elim c.loop-name-test.branch [
      | else-loop-name-test w ↦
          let all : c.loop-name._name ≡ 2 ^ 64 - 1 = omega (arith, w.loop-name-test.false, c.loop-name.auto._name-end) in
          rw (w.opened-is) (c.loop-name._name, far, before.told, c.loop-name.invariant.sets, inr (all, refl))
      | then-loop-name-test+in_ok-step+in_default w ↦
          let comes = subst (λ (o : Option Step). ComesIn state volume IsUnmet far before.told (progress w.next_met.new.self)
          w.next_met.new.told (step_outcome o)) w.in_default.is w.in_ok-step.ensures.comes in
          rw (w.opened-is) (c.loop-name._name, far, before.told, c.loop-name.invariant.sets, inl (progress w.next_met.new.self, comes))
    ]
