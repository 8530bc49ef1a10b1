use Rattle.std.proofs.Common.{rules, ◌≡◌, map, subst, sym}
use Rattle.xnfs_line.specs.Words.{ModesDo, WordDoes, linking_of}
use Rattle.xnfs_line.proofs.WordCases.{link_does}
use Rattle.xnfs_line.proofs.changing.change.Goals.{else-is_symbolic, then-is_symbolic}
use Rattle.xnfs_line.proofs.changing.change.Goals as goal

-- `ln`
pub returns-after-is_symbolic-clause-does : goal.returns-after-is_symbolic-clause-does
returns-after-is_symbolic-clause-does g c =
    let kind : c.if-is_symbolic.linking ≡ linking_of c.in-Link.is_symbolic = elim c.if-is_symbolic.branch [
      | then-is_symbolic w ↦ search rules
      | else-is_symbolic w ↦ search rules
    ] in
    link_does _ _ _ c.in-Link.target c.in-Link.path c.in-Link.is_symbolic c.if-is_symbolic.linking c.in-Link.is kind _ _ _ _ _ _ _ c.link.ensures.told
    c.link.ensures.does

-- `chmod`
pub returns-in-ChangeMode-clause-does : goal.returns-in-ChangeMode-clause-does
returns-in-ChangeMode-clause-does g c =
    let T = g.S.Store.types_of c.args.opened.now.session.store in
    let old = g.S.Store.state_of c.args.opened.now.session.store in
    let new = g.S.Store.state_of c.change_mode.new.opened.session.store in
    let before = c.args.opened.now in
    let after = c.change_mode.new.opened in
    subst (λ w. WordDoes T before.folder w before.told after.told old new before.session.volume after.session.volume c.change_mode.result)
    (sym c.in-ChangeMode.is)
    (subst (λ paths. ModesDo T before.folder c.in-ChangeMode.mode.now (map (λ path. path.now) paths) c.in-ChangeMode.is_recursive before.told after.told old new before.session.volume
    after.session.volume c.change_mode.result) c.deref.ensures.value c.change_mode.ensures.does)
