use Rattle.std.proofs.Common.{◌∙◌, ◌^◌, ◌<◌, Option, Some, ap, arith, length, map, subst, sym}
use Rattle.std.proofs.lemmas.List.{length-map}
use Rattle.tree_lines.specs.Walks.{ComesTo, IsUnmet, IsUnseen, entered_of, met_of, outcome_of, progress}
use Rattle.tree_lines.specs.Walks.Outcome.{Ends, Leaves, Meets}
use Rattle.tree_lines.specs.Walks.StepsAlong.{none}
use Rattle.tree_lines.specs.declared.told.Told.{Told}
use Rattle.tree_lines.specs.declared.walking.Visit.{Visit}
use Rattle.tree_lines.specs.declared.walking.Walk.{Walk}
use Rattle.tree_lines.proofs.WalkSteps.{comes_further, one_fewer, over_left}
use Rattle.tree_lines.proofs.walking.Walk.next_met.Goals as goal
use Rattle.tree_lines.proofs.walking.Walk.next_met.Goals.{else-loop-visit-test, then-loop-visit-test+in_ok-step+in-None}

few_folders : (walk : Walk) → length (map entered_of walk.frames.items) < 2 ^ 63
few_folders walk = omega (arith, length-map walk.frames.items entered_of, walk.frames.ok.0, walk.frames.ok.1, walk.frames.small)

pub loop-visit-init : goal.loop-visit-init
loop-visit-init g c = record { along = none; few = omega arith }

pub returns-in-Some-Met-clause-comes : goal.returns-in-Some-Met-clause-comes
returns-in-Some-Met-clause-comes g c =
    let before = c.loop-visit in
    let Lists = g.V.View.lists c.args.view.now in
    let Shows = g.V.View.shows c.args.view.now in
    let after = c.next.new.self in
    let comes : ComesTo Lists Shows IsUnseen (progress before.self) before.told (progress after) c.next.new.told (Meets (met_of c.in-Some-Met.step)) =
    subst (λ (o : Option Visit). ComesTo Lists Shows IsUnseen (progress before.self) before.told (progress after) c.next.new.told (outcome_of o))
    (c.in-Some-Met.is ∙ ap (λ (v : Visit). Some v) c.in-Some-Met.field-0-is) c.in_ok-step.ensures.comes in
    comes_further Lists Shows (progress c.args.self.now) (progress before.self) (progress after) c.args.told.now before.told c.next.new.told
    (Meets (met_of c.in-Some-Met.step)) before.invariant.along comes (λ over. over)

pub loop-visit-preserved : goal.loop-visit-preserved
loop-visit-preserved g c =
    let before = c.loop-visit in
    let Lists = g.V.View.lists c.args.view.now in
    let Shows = g.V.View.shows c.args.view.now in
    let after = c.next.new.self in
    let met = met_of c.in-Some-Left._step in
    let comes : ComesTo Lists Shows IsUnseen (progress before.self) before.told (progress after) c.next.new.told (Leaves met) =
    subst (λ (o : Option Visit). ComesTo Lists Shows IsUnseen (progress before.self) before.told (progress after) c.next.new.told (outcome_of o))
    (c.in-Some-Left.is ∙ ap (λ (v : Visit). Some v) c.in-Some-Left.field-0-is) c.in_ok-step.ensures.comes in
    let fewer = one_fewer Lists Shows (progress before.self) (progress after) before.told c.next.new.told met comes in
    record {
      along = over_left Lists Shows (progress c.args.self.now) (progress before.self) (progress after) c.args.told.now before.told c.next.new.told met
          before.invariant.along comes;
      few = omega (arith, fewer, before.invariant.few);
    }

pub returns-clause-comes : goal.returns-clause-comes
returns-clause-comes g c =
    let before = c.loop-visit in
    let first = progress c.args.self.now in
    let Lists = g.V.View.lists c.args.view.now in
    let Shows = g.V.View.shows c.args.view.now in
    elim c.loop-visit-test.branch [
      | else-loop-visit-test w ↦ absurd (omega (arith, w.loop-visit-test.false, before.invariant.few, few_folders c.args.self.now))
      | then-loop-visit-test+in_ok-step+in-None w ↦
          let comes = subst (λ (o : Option Visit). ComesTo Lists Shows IsUnseen (progress before.self) before.told (progress w.next.new.self) w.next.new.told
          (outcome_of o)) w.in-None.is w.in_ok-step.ensures.comes in
          let further = comes_further Lists Shows first (progress before.self) (progress w.next.new.self) c.args.told.now before.told w.next.new.told Ends
          before.invariant.along comes (λ over. over) in
          subst (λ (k : Walk). ComesTo Lists Shows IsUnmet first c.args.told.now (progress k) c.loop-visit-test.told Ends) (sym w.self-is)
          (subst (λ (t : Told). ComesTo Lists Shows IsUnmet first c.args.told.now (progress w.next.new.self) t Ends) (sym w.told-is) further)
    ]
