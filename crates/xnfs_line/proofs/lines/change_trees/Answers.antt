use Rattle.std.proofs.Common.{◌≡◌, rules, subst}
use Rattle.std.specs.Prelude.{IfOk}
use Rattle.tree_lines.specs.Opening.{Closes}
use Rattle.xnfs_line.proofs.Statuses.{closed_behind}
use Rattle.xnfs_line.proofs.lines.change_trees.Goals as goal

pub returns-clause-does : goal.returns-clause-does
returns-clause-does g c =
    let before = c.in_ok-opened.opened in
    let after = c.run_opened-done.new.opened in
    closed_behind g.S.Store.state_of (g.S.Store.types_of c.args.volume.0) (g.S.Store.types_of before.session.store) c.args.asked.now.fs c.args.volume.1
    c.args.asked.now.time c.args.asked.now.word (g.S.Store.state_of c.args.volume.0) (g.S.Store.state_of before.session.store)
    (g.S.Store.state_of after.session.store) before.session.volume after.session.volume before.folder after.folder before.told c.run_opened-done.result
    c.close_behind.result (search rules) (search rules) (search rules) c.run_opened-done.ensures.does c.close_behind.ensures.done
    (subst (λ t. IfOk c.close_behind.result (λ e. Closes t (g.S.Store.state_of after.session.store) (g.S.Store.state_of e.1) after.session.volume))
    c.run_opened-done.ensures.types c.close_behind.ensures.closes)
