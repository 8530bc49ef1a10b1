use Rattle.std.proofs.Common.{◌≡◌, ◌∙◌, Err, ap}
use Rattle.tree_lines.specs.declared.reason.Reason.{Reason}
use Rattle.tree_lines.specs.declared.reason.Reason.TheVariants.{Missing}
use Rattle.tree_changes.proofs.Missing.{made_nowhere, nowhere_by_node, nowhere_by_path}
use Rattle.tree_changes.proofs.folders.make_missing.Goals as goal
use Rattle.tree_changes.proofs.folders.make_missing.Goals.{in-Err, in-Ok}

pub returns-in-Err-Missing-clause-does : goal.returns-in-Err-Missing-clause-does
returns-in-Err-Missing-clause-does g c =
    let before = c.args.opened.now in
    let after = c.make_folder.new.opened in
    let T = g.S.Store.types_of before.session.store in
    let old = g.S.Store.state_of before.session.store in
    let new = g.S.Store.state_of after.session.store in
    let volume = before.session.volume in
    let path = c.args.path.now in
    let bytes = c.as_bytes.result.now in
    let missing : c.match-find.found ≡ Err Missing =
    c.in-Err-Missing.is ∙ ap (λ (reason : Reason). Err reason) (rw c.in-Err-Missing.is at c.in-Err-Missing.field-0-is) in
    elim c.match-find.branch [
      | in-Ok w ↦
          made_nowhere T before.folder path old new volume after.session.volume c.make_folder.result
          (nowhere_by_node old volume before.folder path bytes c.match-find.found c.as_bytes.ensures.value missing w.in-Ok.number w.node-found.result
          w.in-Ok.ensures w.node-found.ensures w.found-is) (rw w.opened-is at c.make_folder.ensures.does)
      | in-Err w ↦
          made_nowhere T before.folder path old new volume after.session.volume c.make_folder.result
          (nowhere_by_path old volume before.folder path bytes c.match-find.found c.as_bytes.ensures.value missing w.in-Err.reason w.in-Err.ensures w.found-is)
          (rw w.opened-is at c.make_folder.ensures.does)
    ]
