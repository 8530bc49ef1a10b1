use Rattle.std.proofs.Common.{◌≡◌, ◌∙◌, ℕ, Err, None, Ok, false, rules, sym, true, vec_len}
use Rattle.tree_changes.specs.KeptCopies.{copy_kept}
use Rattle.tree_changes.proofs.Along.{failed}
use Rattle.tree_changes.proofs.CopiedBytes.{none_of}
use Rattle.tree_changes.proofs.CopiedOnce.{timed, untimed}
use Rattle.tree_changes.proofs.copies.copy_file.Goals as goal
use Rattle.tree_changes.proofs.copies.copy_file.Goals.{else-copying, then-copying+in_ok-keep_time}

pub returns-in_err-keep_time-clause-does : goal.returns-in_err-keep_time-clause-does
returns-in_err-keep_time-clause-does g c =
    let before = c.args.opened.now in
    let made = c.copy_new.new.opened in
    let after = c.keep_time.new.opened in
    let copied = c.args.copied.now in
    let new = c.in_ok-number in
    let none_kept : copy_kept c.args.copying.now copied.node ≡ None =
    sym c.copy_of.ensures ∙ none_of c.copy_of.result (λ x is. search (rules, c.in_default.not-Some)) in
    let recursive : c.args.copying.now.is_recursive ≡ true =
    let noted = c.in_ok-note.ensures.recursive in let kept = new.ensures.recursive in let is = c.if-copying.true in cc in
    failed _ _ c.from_residual-in_err-keep_time.result c.from_residual-in_err-keep_time.ensures.0
    (timed (g.S.Store.types_of before.session.store) (g.S.Store.types_of made.session.store) before.folder made.folder (vec_len c.args.copying.now.piece)
    new.ensures.types new.ensures.folder c.args.copying.now c.copy_new.new.copying c.note.new.self new.ensures.kept new.ensures.recursive copied.node
    copied.place.folder copied.place.name.now (g.S.Store.state_of before.session.store) (g.S.Store.state_of made.session.store)
    (g.S.Store.state_of after.session.store) before.session.volume made.session.volume after.session.volume new.number none_kept new.ensures.does
    c.in_ok-note.ensures.ok {E = ℕ} (Err 0) recursive c.in_err-keep_time.ensures.does)

pub returns-clause-does : goal.returns-clause-does
returns-clause-does g c =
    let before = c.args.opened.now in
    let made = c.copy_new.new.opened in
    let copied = c.args.copied.now in
    let new = c.in_ok-number in
    let none_kept : copy_kept c.args.copying.now copied.node ≡ None =
    sym c.copy_of.ensures ∙ none_of c.copy_of.result (λ x is. search (rules, c.in_default.not-Some)) in
    elim c.if-copying.branch [
      | then-copying+in_ok-keep_time w ↦
          let after = w.keep_time.new.opened in
          let recursive : c.args.copying.now.is_recursive ≡ true =
          let noted = c.in_ok-note.ensures.recursive in let kept = new.ensures.recursive in let is = w.if-copying.true in cc in
          rw w.opened-is (timed (g.S.Store.types_of before.session.store) (g.S.Store.types_of made.session.store) before.folder made.folder
          (vec_len c.args.copying.now.piece) new.ensures.types new.ensures.folder c.args.copying.now c.copy_new.new.copying c.note.new.self new.ensures.kept
          new.ensures.recursive copied.node copied.place.folder copied.place.name.now (g.S.Store.state_of before.session.store)
          (g.S.Store.state_of made.session.store) (g.S.Store.state_of after.session.store) before.session.volume made.session.volume after.session.volume
          new.number none_kept new.ensures.does c.in_ok-note.ensures.ok {E = ℕ} (Ok tt) recursive w.in_ok-keep_time.ensures.does)
      | else-copying w ↦
          let single : c.args.copying.now.is_recursive ≡ false =
          let noted = c.in_ok-note.ensures.recursive in let kept = new.ensures.recursive in let is = w.if-copying.false in cc in
          rw w.opened-is (untimed (g.S.Store.types_of before.session.store) before.folder (vec_len c.args.copying.now.piece) c.args.copying.now
          c.copy_new.new.copying c.note.new.self new.ensures.kept new.ensures.recursive copied.node copied.place.folder copied.place.name.now
          (g.S.Store.state_of before.session.store) (g.S.Store.state_of made.session.store) before.session.volume made.session.volume new.number none_kept
          new.ensures.does c.in_ok-note.ensures.ok single)
    ]
