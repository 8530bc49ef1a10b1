use Rattle.std.proofs.Common.{◌≡◌, ◌∙◌, Some, ap, subst, sym}
use Rattle.tree_lines.specs.Trees.{ComesIn}
use Rattle.tree_lines.specs.Walks.{IsUnseen, Outcome, outcome_of, progress}
use Rattle.tree_lines.specs.declared.walking.Visit.{Visit}
use Rattle.tree_changes.specs.Emptying.{step_visited}
use Rattle.tree_changes.proofs.removing.next_step.Goals as goal
use Rattle.tree_changes.proofs.removing.next_step.Goals.{in-None, in-Some-Met, in-Some-Left}

pub returns-clause-comes : goal.returns-clause-comes
returns-clause-comes g c =
    let before = c.args.opened.now in
    let state = g.S.Store.state_of before.session.store in
    let volume = before.session.volume in
    let told = c.next.new.told in
    let walk = c.next.new.self in
    let same : outcome_of c.in_ok-visit.visit ≡ step_visited c.match-visit.step = elim c.match-visit.branch [
      | in-None w ↦ ap outcome_of w.in-None.is ∙ sym (ap step_visited w.step-is)
      | in-Some-Met w ↦ ap outcome_of (w.in-Some-Met.is ∙ ap (λ (v : Visit). Some v) w.in-Some-Met.field-0-is) ∙ sym (ap step_visited w.step-is)
      | in-Some-Left w ↦ ap outcome_of (w.in-Some-Left.is ∙ ap (λ (v : Visit). Some v) w.in-Some-Left.field-0-is) ∙ sym (ap step_visited w.step-is)
    ] in
    subst (λ (o : Outcome). ComesIn state volume IsUnseen (progress c.args.walk.now) before.told (progress walk) told o) same c.in_ok-visit.ensures.comes
