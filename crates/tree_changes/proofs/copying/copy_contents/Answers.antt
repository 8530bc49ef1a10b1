use Rattle.std.proofs.Common.{◌≡◌, ◌∙◌, ◌-◌, ◌^◌, Option, ap, arith, refl, subst, vec_len}
use Rattle.tree_lines.specs.Telling.{EndsLine}
use Rattle.tree_lines.specs.Trees.{ComesIn}
use Rattle.tree_lines.specs.Walks.{IsUnseen, outcome_of, progress, without}
use Rattle.tree_lines.specs.declared.walking.Visit.{Visit}
use Rattle.tree_changes.specs.CopiedTrees.{CopiesPart, CopiesWhole}
use Rattle.tree_changes.proofs.TreesCopied.{ended, fault_at, for_memory, no_memory_at, none_through, not_begun, not_further, one_through, part_through, passed}
use Rattle.tree_changes.proofs.copying.copy_contents.Goals as goal
use Rattle.tree_changes.proofs.copying.copy_contents.Goals.{else-loop-name-test, then-loop-name-test+in_ok-visit+in_default}

pub returns-in_err-walk-clause-does : goal.returns-in_err-walk-clause-does
returns-in_err-walk-clause-does g c =
    let first = c.args.opened.now in
    let T = g.S.Store.types_of first.session.store in
    let state = g.S.Store.state_of first.session.store in
    let volume = first.session.volume in
    let copying = c.args.copying.now in
    let copied = c.args.copied.now in
    let most = vec_len copying.piece in
    no_memory_at (λ done. CopiesWhole T first.folder most copied.path.now copied.node.number c.args.into first.told first.told copying copying state state
    volume volume) (CopiesPart T first.folder most copied.path.now copied.node.number c.args.into first.told copying state state volume volume)
    c.from_residual.result c.from_residual.ensures.1
    (not_begun T first.folder most copied.path.now copied.node.number c.args.into first.told copying state volume)

pub returns-in_err-leave_out-clause-does : goal.returns-in_err-leave_out-clause-does
returns-in_err-leave_out-clause-does g c =
    let first = c.args.opened.now in
    let T = g.S.Store.types_of first.session.store in
    let state = g.S.Store.state_of first.session.store in
    let volume = first.session.volume in
    let copying = c.args.copying.now in
    let copied = c.args.copied.now in
    let most = vec_len copying.piece in
    no_memory_at (λ done. CopiesWhole T first.folder most copied.path.now copied.node.number c.args.into first.told first.told copying copying state state
    volume volume) (CopiesPart T first.folder most copied.path.now copied.node.number c.args.into first.told copying state state volume volume)
    c.from_residual-in_err-leave_out.result c.from_residual-in_err-leave_out.ensures.1
    (not_begun T first.folder most copied.path.now copied.node.number c.args.into first.told copying state volume)

pub returns-in_err-folders-clause-does : goal.returns-in_err-folders-clause-does
returns-in_err-folders-clause-does g c =
    let first = c.args.opened.now in
    let T = g.S.Store.types_of first.session.store in
    let state = g.S.Store.state_of first.session.store in
    let volume = first.session.volume in
    let copying = c.args.copying.now in
    let copied = c.args.copied.now in
    let most = vec_len copying.piece in
    no_memory_at (λ done. CopiesWhole T first.folder most copied.path.now copied.node.number c.args.into first.told first.told copying copying state state
    volume volume) (CopiesPart T first.folder most copied.path.now copied.node.number c.args.into first.told copying state state volume volume)
    c.from_residual-in_err-folders.result c.from_residual-in_err-folders.ensures.1
    (not_begun T first.folder most copied.path.now copied.node.number c.args.into first.told copying state volume)

pub loop-name-init : goal.loop-name-init
loop-name-init g c =
    let first = c.args.opened.now in
    let copying = c.args.copying.now in
    let copied = c.args.copied.now in
    record {
      types = refl;
      folder = refl;
      piece = refl;
      recursive = refl;
      through = none_through (g.S.Store.types_of first.session.store) first.folder (vec_len copying.piece) copied.path.now copied.node.number c.args.into
          first.told copying (g.S.Store.state_of first.session.store) first.session.volume (progress c.leave_out.new.self) c.in_ok-folders.folders.items
          (c.in_ok-leave_out.ensures ∙ ap (λ f. without f c.args.into.number) c.in_ok-walk.ensures) c.in_ok-folders.ensures.items;
    }

pub returns-in_err-visit-clause-does : goal.returns-in_err-visit-clause-does
returns-in_err-visit-clause-does g c =
    let first = c.args.opened.now in
    let before = c.loop-name.opened in
    let T = g.S.Store.types_of first.session.store in
    let old = g.S.Store.state_of first.session.store in
    let state = g.S.Store.state_of before.session.store in
    let copying = c.args.copying.now in
    let copied = c.args.copied.now in
    let most = vec_len copying.piece in
    let left = not_further T first.folder most copied.path.now copied.node.number c.args.into first.told copying old first.session.volume
    c.loop-name._name (progress c.loop-name.walk) before.told c.loop-name.folders.items c.loop-name.copying state before.session.volume
    c.loop-name.invariant.through in
    fault_at (λ done. CopiesWhole T first.folder most copied.path.now copied.node.number c.args.into first.told c.next.new.told copying c.loop-name.copying
    old state first.session.volume before.session.volume)
    (λ fault. EndsLine fault × CopiesPart T first.folder most copied.path.now copied.node.number c.args.into first.told copying old state
    first.session.volume before.session.volume) c.from_residual-in_err-visit.result c.in_err-visit.field-0.0 c.from_residual-in_err-visit.ensures.1
    (for_memory c.in_err-visit.field-0.0 c.in_err-visit.ensures.err, left)

pub returns-in_err-to-clause-does : goal.returns-in_err-to-clause-does
returns-in_err-to-clause-does g c =
    let first = c.args.opened.now in
    let before = c.loop-name.opened in
    let T = g.S.Store.types_of first.session.store in
    let old = g.S.Store.state_of first.session.store in
    let state = g.S.Store.state_of before.session.store in
    let copying = c.args.copying.now in
    let copied = c.args.copied.now in
    let most = vec_len copying.piece in
    no_memory_at (λ done. CopiesWhole T first.folder most copied.path.now copied.node.number c.args.into first.told c.next.new.told copying
    c.loop-name.copying old state first.session.volume before.session.volume)
    (CopiesPart T first.folder most copied.path.now copied.node.number c.args.into first.told copying old state
    first.session.volume before.session.volume) c.from_residual-in_err-to.result c.from_residual-in_err-to.ensures.1
    (not_further T first.folder most copied.path.now copied.node.number c.args.into first.told copying old first.session.volume
    c.loop-name._name (progress c.loop-name.walk) before.told c.loop-name.folders.items c.loop-name.copying state before.session.volume
    c.loop-name.invariant.through)

pub returns-in_err-copy_visited-clause-does : goal.returns-in_err-copy_visited-clause-does
returns-in_err-copy_visited-clause-does g c =
    let first = c.args.opened.now in
    let before = c.loop-name.opened in
    let after = c.copy_visited.new.opened in
    let kept = c.loop-name.invariant in
    let T = g.S.Store.types_of first.session.store in
    let old = g.S.Store.state_of first.session.store in
    let state = g.S.Store.state_of before.session.store in
    let new = g.S.Store.state_of after.session.store in
    let copying = c.args.copying.now in
    let copied = c.args.copied.now in
    let most = vec_len copying.piece in
    let far = progress c.loop-name.walk in
    let far1 = progress c.next.new.self in
    let comes = subst (λ (o : Option Visit). ComesIn state before.session.volume IsUnseen far before.told far1 c.next.new.told (outcome_of o))
    c.in-Some.is c.in_ok-visit.ensures.comes in
    let stops = c.in_err-copy_visited.ensures.does in
    let part = part_through T first.folder most copied.path.now copied.node.number c.args.into first.told copying old first.session.volume
    c.loop-name._name far before.told c.loop-name.folders.items c.loop-name.copying state before.session.volume kept.through
    (g.S.Store.types_of before.session.store) before.folder (vec_len c.loop-name.copying.piece) kept.types kept.folder kept.piece far1 c.next.new.told
    _ comes new after.session.volume stops.1 in
    fault_at (λ done. CopiesWhole T first.folder most copied.path.now copied.node.number c.args.into first.told after.told copying
    c.copy_visited.new.copying old new first.session.volume after.session.volume)
    (λ fault. EndsLine fault × CopiesPart T first.folder most copied.path.now copied.node.number c.args.into first.told copying old new
    first.session.volume after.session.volume) c.from_residual-in_err-copy_visited.result c.in_err-copy_visited.field-0.0
    c.from_residual-in_err-copy_visited.ensures.1 (stops.0, part)

pub loop-name-preserved : goal.loop-name-preserved
loop-name-preserved g c =
    let first = c.args.opened.now in
    let before = c.loop-name.opened in
    let after = c.copy_visited.new.opened in
    let kept = c.loop-name.invariant in
    let does = c.copy_visited.ensures in
    let T = g.S.Store.types_of first.session.store in
    let old = g.S.Store.state_of first.session.store in
    let state = g.S.Store.state_of before.session.store in
    let new = g.S.Store.state_of after.session.store in
    let copying = c.args.copying.now in
    let copied = c.args.copied.now in
    let most = vec_len copying.piece in
    let far = progress c.loop-name.walk in
    let far1 = progress c.next.new.self in
    let comes = subst (λ (o : Option Visit). ComesIn state before.session.volume IsUnseen far before.told far1 c.next.new.told (outcome_of o))
    c.in-Some.is c.in_ok-visit.ensures.comes in
    record {
      types = does.types ∙ kept.types;
      folder = does.folder ∙ kept.folder;
      piece = does.piece ∙ kept.piece;
      recursive = does.recursive ∙ kept.recursive;
      through = one_through T first.folder most copied.path.now copied.node.number c.args.into first.told copying old first.session.volume
          c.loop-name._name far before.told c.loop-name.folders.items c.loop-name.copying state before.session.volume kept.through
          (g.S.Store.types_of before.session.store) before.folder (vec_len c.loop-name.copying.piece) kept.types kept.folder kept.piece far1
          c.next.new.told _ comes new after.session.volume (progress c.copy_visited.new.walk) after.told c.copy_visited.new.folders.items
          c.copy_visited.new.copying c.in_ok-copy_visited.ensures.does;
    }

pub returns-clause-does : goal.returns-clause-does
returns-clause-does g c =
    let first = c.args.opened.now in
    let before = c.loop-name.opened in
    let T = g.S.Store.types_of first.session.store in
    let old = g.S.Store.state_of first.session.store in
    let state = g.S.Store.state_of before.session.store in
    let copying = c.args.copying.now in
    let copied = c.args.copied.now in
    let most = vec_len copying.piece in
    let far = progress c.loop-name.walk in
    elim c.loop-name-test.branch [
      | else-loop-name-test w ↦
          let all : c.loop-name._name ≡ 2 ^ 64 - 1 = omega (arith, w.loop-name-test.false, c.loop-name.auto._name-end) in
          rw (w.opened-is)
          (passed T first.folder most copied.path.now copied.node.number c.args.into first.told copying old first.session.volume
          c.loop-name._name far before.told c.loop-name.folders.items c.loop-name.copying state before.session.volume c.loop-name.invariant.through all)
      | then-loop-name-test+in_ok-visit+in_default w ↦
          let comes = subst (λ (o : Option Visit). ComesIn state before.session.volume IsUnseen far before.told (progress w.next.new.self)
          w.next.new.told (outcome_of o)) w.in_default.is w.in_ok-visit.ensures.comes in
          rw (w.opened-is)
          (ended T first.folder most copied.path.now copied.node.number c.args.into first.told copying old first.session.volume
          c.loop-name._name far before.told c.loop-name.folders.items c.loop-name.copying state before.session.volume c.loop-name.invariant.through
          (progress w.next.new.self) w.next.new.told comes)
    ]
