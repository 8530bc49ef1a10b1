use Rattle.std.proofs.Common.{◌⊎◌, Err, Ok, inr, vec_len}
use Rattle.treefs_model.specs.declared.fault.Fault.{Fault}
use Rattle.tree_lines.specs.Telling.{EndsLine}
use Rattle.tree_lines.specs.declared.fault.Fault.{Fault as LineFault}
use Rattle.tree_changes.specs.CopiedTrees.{CopiesBelow, CopiesPart}
use Rattle.tree_changes.proofs.TreesCopied.{fault_at, timed}
use Rattle.tree_changes.proofs.copying.copy_below.Goals as goal

pub returns-in_err-copy_contents-clause-does : goal.returns-in_err-copy_contents-clause-does
returns-in_err-copy_contents-clause-does g c =
    let before = c.args.opened.now in
    let after = c.copy_contents.new.opened in
    let T = g.S.Store.types_of before.session.store in
    let old = g.S.Store.state_of before.session.store in
    let new = g.S.Store.state_of after.session.store in
    let volume = before.session.volume in
    let volume' = after.session.volume in
    let copying = c.args.copying.now in
    let copying' = c.copy_contents.new.copying in
    let copied = c.args.copied.now in
    let most = vec_len copying.piece in
    fault_at (λ done. CopiesBelow T before.folder most copied.path.now copied.node c.args.into before.told after.told copying copying' old new volume volume'
    (Ok tt))
    (λ (ends : LineFault). ((fault : Fault) × CopiesBelow T before.folder most copied.path.now copied.node c.args.into before.told after.told copying copying'
    old new volume volume' (Err fault))
    ⊎ (EndsLine ends × CopiesPart T before.folder most copied.path.now copied.node.number c.args.into before.told copying old new volume volume'))
    c.from_residual.result c.in_err-copy_contents.field-0.0 c.from_residual.ensures.1 (inr c.in_err-copy_contents.ensures.does)

pub returns-clause-does : goal.returns-clause-does
returns-clause-does g c =
    let before = c.args.opened.now in
    let middle = c.copy_contents.new.opened in
    let after = c.leave_folder.new.opened in
    let copying = c.args.copying.now in
    let copied = c.args.copied.now in
    let whole = c.in_ok-copy_contents.ensures in
    timed (g.S.Store.types_of before.session.store) (g.S.Store.types_of middle.session.store) before.folder middle.folder whole.types whole.folder
    (vec_len copying.piece) copied.path.now copied.node c.args.into before.told middle.told after.told c.leave_folder.ensures.told copying
    c.copy_contents.new.copying (g.S.Store.state_of before.session.store) (g.S.Store.state_of middle.session.store)
    (g.S.Store.state_of after.session.store) before.session.volume middle.session.volume after.session.volume whole.does c.leave_folder.result
    c.leave_folder.ensures.does
