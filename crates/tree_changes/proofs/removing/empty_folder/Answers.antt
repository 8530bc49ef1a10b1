use Rattle.std.proofs.Common.{◌≡◌, ◌∙◌, ◌-◌, ◌^◌, Bool, false, Option, ap, arith, refl, subst, sym}
use Rattle.std.specs.Prelude.{◌&&◌}
use Rattle.tree_lines.specs.Places.{IsFolder}
use Rattle.tree_lines.specs.Trees.{ComesIn}
use Rattle.tree_lines.specs.Walks.{IsUnseen, begun, met_of, progress}
use Rattle.tree_lines.specs.declared.walking.Step.{Step}
use Rattle.tree_changes.specs.Emptying.{Empties, EmptiesUpTo, step_visited, still_whole, visit_outcome}
use Rattle.tree_changes.proofs.AlongTold.{answers_end}
use Rattle.tree_changes.proofs.Emptied.{ended, ends_taking, err_there, gone_in, never_whole, none_removed}
use Rattle.tree_changes.proofs.Emptied.{not_begun, not_further, one_taken, passed, seen_whole}
use Rattle.tree_changes.proofs.removing.empty_folder.Goals as goal
use Rattle.tree_changes.proofs.removing.empty_folder.Goals.{else-is_folder-via-then-is_folder+else-not-is_behind, else-is_folder-via-else-is_folder}
use Rattle.tree_changes.proofs.removing.empty_folder.Goals.{else-is_whole, else-is_whole-2, then-is_whole, then-is_whole-2}
use Rattle.tree_changes.proofs.removing.empty_folder.Goals.{else-loop-name-test, then-loop-name-test+in_ok-step+in_default}

pub returns-in_err-walk-clause-does : goal.returns-in_err-walk-clause-does
returns-in_err-walk-clause-does g c =
    let first = c.args.opened.now in
    let T = g.S.Store.types_of first.session.store in
    let state = g.S.Store.state_of first.session.store in
    let volume = first.session.volume in
    err_there (λ whole. Empties T first.folder c.args.path.now c.args.folder whole first.told first.told state state volume volume)
    (EmptiesUpTo T first.folder c.args.path.now c.args.folder first.told state state volume volume) c.from_residual.result c.from_residual.ensures.0
    (not_begun T first.folder c.args.path.now c.args.folder first.told state volume)

pub loop-name-init : goal.loop-name-init
loop-name-init g c =
    let first = c.args.opened.now in
    record {
      types = refl;
      folder = refl;
      removes = none_removed (g.S.Store.types_of first.session.store) first.folder c.args.path.now c.args.folder first.told
          (g.S.Store.state_of first.session.store) first.session.volume (progress c.in_ok-walk.walk)
          (c.in_ok-walk.ensures ∙ ap (λ p. begun p c.args.folder) c.as_bytes.ensures.value);
    }

pub returns-in_err-step-clause-does : goal.returns-in_err-step-clause-does
returns-in_err-step-clause-does g c =
    let first = c.args.opened.now in
    let before = c.loop-name.opened in
    let T = g.S.Store.types_of first.session.store in
    let old = g.S.Store.state_of first.session.store in
    let state = g.S.Store.state_of before.session.store in
    let next = c.next_step.new.opened in
    let between = g.S.Store.state_of next.session.store in
    err_there (λ whole. Empties T first.folder c.args.path.now c.args.folder whole first.told next.told old between first.session.volume next.session.volume)
    (EmptiesUpTo T first.folder c.args.path.now c.args.folder first.told old between first.session.volume next.session.volume)
    c.from_residual-in_err-step.result c.from_residual-in_err-step.ensures.0
    (not_further T first.folder c.args.path.now c.args.folder first.told old first.session.volume c.loop-name._name (progress c.loop-name.walk)
    before.told c.loop-name.is_whole state before.session.volume c.loop-name.invariant.removes between next.session.volume c.next_step.ensures.same)

pub returns-in_err-step-clause-ends : goal.returns-in_err-step-clause-ends
returns-in_err-step-clause-ends g c =
    answers_end c.in_err-step.field-0.0 c.from_residual-in_err-step.result c.in_err-step.ensures.ends c.from_residual-in_err-step.ensures.1

pub loop-name-preserved-then-not-is_behind : goal.loop-name-preserved-then-not-is_behind
loop-name-preserved-then-not-is_behind g c =
    let first = c.args.opened.now in
    let before = c.loop-name.opened in
    let T = g.S.Store.types_of first.session.store in
    let old = g.S.Store.state_of first.session.store in
    let state = g.S.Store.state_of before.session.store in
    let next = c.next_step.new.opened in
    let between = g.S.Store.state_of next.session.store in
    let behind = c.in-Some.is_behind in
    let met = met_of c.in-Some.step in
    let comes : ComesIn state before.session.volume IsUnseen (progress c.loop-name.walk) before.told (progress c.next_step.new.walk) next.told
    (visit_outcome behind met) =
    subst (λ (o : Option (Step × Bool)). ComesIn state before.session.volume IsUnseen (progress c.loop-name.walk) before.told (progress c.next_step.new.walk)
    next.told (step_visited o)) c.in-Some.is c.in_ok-step.ensures.comes in
    let whole : c.if-is_whole.is_whole ≡ still_whole c.loop-name.is_whole before.told next.told = elim c.if-is_whole.branch [
      | then-is_whole w ↦ seen_whole c.loop-name.is_whole c.if-is_whole.is_whole c.in_ok-step.is_unseen before.told next.told c.in_ok-step.ensures.unseen
          w.if-is_whole.true w.is_whole-is
      | else-is_whole w ↦ never_whole c.loop-name.is_whole c.if-is_whole.is_whole before.told next.told w.if-is_whole.false w.is_whole-is
    ] in
    record {
      types = c.next_step.ensures.types ∙ c.loop-name.invariant.types;
      folder = c.next_step.ensures.folder ∙ c.loop-name.invariant.folder;
      removes = gone_in T first.folder c.args.path.now c.args.folder first.told old first.session.volume c.loop-name._name (progress c.loop-name.walk)
          before.told c.loop-name.is_whole state before.session.volume c.loop-name.invariant.removes
          (progress c.next_step.new.walk) next.told behind met between
          next.session.volume c.next_step.ensures.same comes c.if-is_whole.is_whole whole (c.if-is_folder.ensures.0 refl) c.if-not-is_behind.true;
    }

pub returns-in_err-is_removed-clause-does : goal.returns-in_err-is_removed-clause-does
returns-in_err-is_removed-clause-does g c =
    let first = c.args.opened.now in
    let before = c.loop-name.opened in
    let T = g.S.Store.types_of first.session.store in
    let old = g.S.Store.state_of first.session.store in
    let state = g.S.Store.state_of before.session.store in
    let next = c.next_step.new.opened in
    let between = g.S.Store.state_of next.session.store in
    let behind = c.in-Some.is_behind in
    let met = met_of c.in-Some.step in
    let comes : ComesIn state before.session.volume IsUnseen (progress c.loop-name.walk) before.told (progress c.next_step.new.walk) next.told
    (visit_outcome behind met) =
    subst (λ (o : Option (Step × Bool)). ComesIn state before.session.volume IsUnseen (progress c.loop-name.walk) before.told (progress c.next_step.new.walk)
    next.told (step_visited o)) c.in-Some.is c.in_ok-step.ensures.comes in
    let whole : c.if-is_whole.is_whole ≡ still_whole c.loop-name.is_whole before.told next.told = elim c.if-is_whole.branch [
      | then-is_whole w ↦ seen_whole c.loop-name.is_whole c.if-is_whole.is_whole c.in_ok-step.is_unseen before.told next.told c.in_ok-step.ensures.unseen
          w.if-is_whole.true w.is_whole-is
      | else-is_whole w ↦ never_whole c.loop-name.is_whole c.if-is_whole.is_whole before.told next.told w.if-is_whole.false w.is_whole-is
    ] in
    let last = c.remove_step.new.opened in
    let new = g.S.Store.state_of last.session.store in
    let refused = c.in_err-is_removed.ensures.does in
    err_there (λ whole. Empties T first.folder c.args.path.now c.args.folder whole first.told last.told old new first.session.volume last.session.volume)
    (EmptiesUpTo T first.folder c.args.path.now c.args.folder first.told old new first.session.volume last.session.volume)
    c.from_residual-in_err-is_removed.result c.from_residual-in_err-is_removed.ensures.0
    (ends_taking T first.folder c.args.path.now c.args.folder first.told old first.session.volume c.loop-name._name (progress c.loop-name.walk)
    before.told c.loop-name.is_whole state before.session.volume c.loop-name.invariant.removes
    (progress c.next_step.new.walk) next.told behind met between
    next.session.volume c.next_step.ensures.same comes c.if-is_whole.is_whole whole (g.S.Store.types_of next.session.store) next.folder
    (c.next_step.ensures.types ∙ c.loop-name.invariant.types) (c.next_step.ensures.folder ∙ c.loop-name.invariant.folder) new last.session.volume
    refused.0 refused.1)

pub returns-in_err-is_removed-clause-ends : goal.returns-in_err-is_removed-clause-ends
returns-in_err-is_removed-clause-ends g c =
    answers_end c.in_err-is_removed.field-0.0 c.from_residual-in_err-is_removed.result c.in_err-is_removed.ensures.ends
    c.from_residual-in_err-is_removed.ensures.1

pub loop-name-preserved : goal.loop-name-preserved
loop-name-preserved g c =
    let first = c.args.opened.now in
    let before = c.loop-name.opened in
    let T = g.S.Store.types_of first.session.store in
    let old = g.S.Store.state_of first.session.store in
    let state = g.S.Store.state_of before.session.store in
    let next = c.next_step.new.opened in
    let between = g.S.Store.state_of next.session.store in
    let behind = c.in-Some.is_behind in
    let met = met_of c.in-Some.step in
    let comes : ComesIn state before.session.volume IsUnseen (progress c.loop-name.walk) before.told (progress c.next_step.new.walk) next.told
    (visit_outcome behind met) =
    subst (λ (o : Option (Step × Bool)). ComesIn state before.session.volume IsUnseen (progress c.loop-name.walk) before.told (progress c.next_step.new.walk)
    next.told (step_visited o)) c.in-Some.is c.in_ok-step.ensures.comes in
    let whole : c.if-is_whole.is_whole ≡ still_whole c.loop-name.is_whole before.told next.told = elim c.if-is_whole.branch [
      | then-is_whole w ↦ seen_whole c.loop-name.is_whole c.if-is_whole.is_whole c.in_ok-step.is_unseen before.told next.told c.in_ok-step.ensures.unseen
          w.if-is_whole.true w.is_whole-is
      | else-is_whole w ↦ never_whole c.loop-name.is_whole c.if-is_whole.is_whole before.told next.told w.if-is_whole.false w.is_whole-is
    ] in
    let other : ¬ (IsFolder met.node × (behind ≡ false)) = elim c.else-is_folder.branch [
      | else-is_folder-via-then-is_folder+else-not-is_behind w ↦ λ both. let wrong = w.if-not-is_behind.false in let right = both.1 in cc
      | else-is_folder-via-else-is_folder w ↦ λ both. let wrong = w.if-is_folder.ensures.1 both.0 in cc
    ] in
    let last = c.remove_step.new.opened in
    let new = g.S.Store.state_of last.session.store in
    let types_is = c.next_step.ensures.types ∙ c.loop-name.invariant.types in
    let folder_is = c.next_step.ensures.folder ∙ c.loop-name.invariant.folder in
    let so : c.if-is_whole-2.is_whole ≡ (c.if-is_whole.is_whole && c.in_ok-is_removed.is_removed) = elim c.if-is_whole-2.branch [
      | then-is_whole-2 w ↦ w.is_whole-is ∙ ap (λ b. b && c.in_ok-is_removed.is_removed) (sym w.if-is_whole-2.true)
      | else-is_whole-2 w ↦ w.is_whole-is ∙ (w.if-is_whole-2.false ∙ ap (λ b. b && c.in_ok-is_removed.is_removed) (sym w.if-is_whole-2.false))
    ] in
    record {
      types = c.remove_step.ensures.types ∙ types_is;
      folder = c.remove_step.ensures.folder ∙ folder_is;
      removes = one_taken T first.folder c.args.path.now c.args.folder first.told old first.session.volume c.loop-name._name (progress c.loop-name.walk)
          before.told c.loop-name.is_whole state before.session.volume c.loop-name.invariant.removes
          (progress c.next_step.new.walk) next.told behind met between
          next.session.volume c.next_step.ensures.same comes c.if-is_whole.is_whole whole (g.S.Store.types_of next.session.store) next.folder
          types_is folder_is new last.session.volume last.told c.in_ok-is_removed.is_removed c.if-is_whole-2.is_whole other c.in_ok-is_removed.ensures.does so;
    }

pub returns-clause-does : goal.returns-clause-does
returns-clause-does g c =
    let first = c.args.opened.now in
    let before = c.loop-name.opened in
    let T = g.S.Store.types_of first.session.store in
    let old = g.S.Store.state_of first.session.store in
    let state = g.S.Store.state_of before.session.store in
    elim c.loop-name-test.branch [
      | else-loop-name-test w ↦
          let all : c.loop-name._name ≡ 2 ^ 64 - 1 = omega (arith, w.loop-name-test.false, c.loop-name.auto._name-end) in
          rw (w.opened-is, w.is_whole-is)
          (passed T first.folder c.args.path.now c.args.folder first.told old first.session.volume c.loop-name._name (progress c.loop-name.walk)
          before.told c.loop-name.is_whole state before.session.volume c.loop-name.invariant.removes all)
      | then-loop-name-test+in_ok-step+in_default w ↦
          let next = w.next_step.new.opened in
          let between = g.S.Store.state_of next.session.store in
          let comes = subst (λ (o : Option (Step × Bool)). ComesIn state before.session.volume IsUnseen (progress c.loop-name.walk) before.told
          (progress w.next_step.new.walk) next.told (step_visited o)) w.in_default.is w.in_ok-step.ensures.comes in
          let whole : w.if-is_whole.is_whole ≡ still_whole c.loop-name.is_whole before.told next.told = elim w.if-is_whole.branch [
            | then-is_whole v ↦ seen_whole c.loop-name.is_whole w.if-is_whole.is_whole w.in_ok-step.is_unseen before.told next.told
                w.in_ok-step.ensures.unseen v.if-is_whole.true v.is_whole-is
            | else-is_whole v ↦ never_whole c.loop-name.is_whole w.if-is_whole.is_whole before.told next.told v.if-is_whole.false v.is_whole-is
          ] in
          rw (w.opened-is, w.is_whole-is)
          (ended T first.folder c.args.path.now c.args.folder first.told old first.session.volume c.loop-name._name (progress c.loop-name.walk)
          before.told c.loop-name.is_whole state before.session.volume c.loop-name.invariant.removes (progress w.next_step.new.walk) next.told
          w.if-is_whole.is_whole between next.session.volume w.next_step.ensures.same comes whole)
    ]
