use Rattle.std.proofs.Common.{ℕ, Option, None, Some, inl, refl, subst}
use Rattle.std.specs.Option.{option_map}
use Rattle.tree_lines.specs.Walks.{IsUnseen, MeetsName, NextName, entry_of, met_of, outcome_of, progress}
use Rattle.tree_lines.specs.Walks.Outcome.{Unseen}
use Rattle.tree_lines.specs.Walks.StepsAlong.{more, none}
use Rattle.tree_lines.specs.declared.node.Named.{Named}
use Rattle.tree_lines.specs.declared.walking.Step.{Step}
use Rattle.tree_lines.specs.declared.walking.Visit.{Visit}
use Rattle.tree_lines.specs.declared.walking.Visit.TheVariants as visit
use Rattle.tree_lines.proofs.WalkSteps.{few_after, few_in, folder_left, name_passed}
use Rattle.tree_lines.proofs.walking.Walk.next.Goals as goal

seen_visit : (visit : Option Visit) → IsUnseen (outcome_of visit) → ⊥
seen_visit None over = over
seen_visit (Some (visit.Met step)) over = over
seen_visit (Some (visit.Left step)) over = over

pub loop-name-init : goal.loop-name-init
loop-name-init g c = record { along = none; few = inl refl }

pub returns-in_default-clause-comes : goal.returns-in_default-clause-comes
returns-in_default-clause-comes g c =
    let before = c.loop-name in
    let Lists = g.V.View.lists c.args.view.now in
    let Shows = g.V.View.shows c.args.view.now in
    let between = c.next_name.new.self in
    let told' = c.next_name.new.told in
    let next : NextName Lists (progress before.self) before.told (progress between) told' None =
    subst (λ (o : Option (ℕ × Named)). NextName Lists (progress before.self) before.told (progress between) told' (option_map (λ x. (x.0, entry_of x.1)) o))
    c.in_default.is c.in_ok-folder.ensures.next in (
      progress before.self,
      before.told,
      before.invariant.along,
      folder_left Lists Shows (progress before.self) (progress between) (progress c.leave.new.self) before.told told'
          (outcome_of c.leave.result) next c.leave.ensures,
      seen_visit c.leave.result,
    )

pub returns-in-Some-2-clause-comes : goal.returns-in-Some-2-clause-comes
returns-in-Some-2-clause-comes g c =
    let before = c.loop-name in
    let Lists = g.V.View.lists c.args.view.now in
    let Shows = g.V.View.shows c.args.view.now in
    let between = c.next_name.new.self in
    let middle = c.next_name.new.told in
    let after = c.meet.new.self in
    let told' = c.meet.new.told in
    let entry = entry_of c.in-Some.named in
    let next : NextName Lists (progress before.self) before.told (progress between) middle (Some (c.in-Some.folder, entry)) =
    subst (λ (o : Option (ℕ × Named)). NextName Lists (progress before.self) before.told (progress between) middle (option_map (λ x. (x.0, entry_of x.1)) o))
    c.in-Some.is c.in_ok-folder.ensures.next in
    let meets : MeetsName Shows (progress between) middle (progress after) told' c.in-Some.folder entry (Some (met_of c.in-Some-2.step)) =
    subst (λ (o : Option Step). MeetsName Shows (progress between) middle (progress after) told' c.in-Some.folder entry (option_map met_of o))
    c.in-Some-2.is c.in_ok-step.ensures.meets in (
      progress before.self,
      before.told,
      before.invariant.along,
      name_passed Lists Shows (progress before.self) (progress between) (progress after) before.told middle told' c.in-Some.folder entry
          (Some (met_of c.in-Some-2.step)) next meets,
      λ over. over,
    )

pub loop-name-preserved : goal.loop-name-preserved
loop-name-preserved g c =
    let before = c.loop-name in
    let Lists = g.V.View.lists c.args.view.now in
    let Shows = g.V.View.shows c.args.view.now in
    let between = c.next_name.new.self in
    let middle = c.next_name.new.told in
    let after = c.meet.new.self in
    let told' = c.meet.new.told in
    let entry = entry_of c.in-Some.named in
    let next : NextName Lists (progress before.self) before.told (progress between) middle (Some (c.in-Some.folder, entry)) =
    subst (λ (o : Option (ℕ × Named)). NextName Lists (progress before.self) before.told (progress between) middle (option_map (λ x. (x.0, entry_of x.1)) o))
    c.in-Some.is c.in_ok-folder.ensures.next in
    let meets : MeetsName Shows (progress between) middle (progress after) told' c.in-Some.folder entry None =
    subst (λ (o : Option Step). MeetsName Shows (progress between) middle (progress after) told' c.in-Some.folder entry (option_map met_of o))
    c.in_default-2.is c.in_ok-step.ensures.meets in
    record {
      along = more (progress before.self) before.told Unseen before.invariant.along
          (name_passed Lists Shows (progress before.self) (progress between) (progress after) before.told middle told'
          c.in-Some.folder entry None next meets) tt;
      few = few_after Lists Shows (progress before.self) (progress between) (progress after) before.told middle told' c.in-Some.folder entry before._name
          before.invariant.few next meets (few_in after.frames.items);
    }
