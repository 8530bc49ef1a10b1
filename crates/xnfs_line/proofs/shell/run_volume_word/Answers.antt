use Rattle.std.proofs.Common.{rules, ◌≡◌, false, inl, inr, refl, subst, sym}
use Rattle.xnfs_line.specs.Shells.{IsWritten}
use Rattle.xnfs_line.specs.Words.{RunsWord, only_looks}
use Rattle.xnfs_line.proofs.WordCases.{is_written, stays}
use Rattle.xnfs_line.proofs.shell.run_volume_word.Goals.{then-shell-via-else-shell+then-is_looking, then-shell-via-then-shell}
use Rattle.xnfs_line.proofs.shell.run_volume_word.Goals as goal

-- what it left stays
pub returns-then-shell-clause-does : goal.returns-then-shell-clause-does
returns-then-shell-clause-does g c =
    let ran = c.run_word-done in (
      ran.result,
      g.S.Store.state_of ran.new.opened.session.store,
      ran.new.opened.session.volume,
      ran.ensures.does,
      stays _ c.args.asked.1.is_lazy (only_looks c.args.asked.0.now) (elim c.then-shell.branch [
        | then-shell-via-then-shell w ↦ inl (search rules)
        | then-shell-via-else-shell+then-is_looking w ↦ inr (search rules)
      ]) ((refl, refl), refl),
    )

-- it is written
pub returns-clause-does : goal.returns-clause-does
returns-clause-does g c =
    let first = c.args.opened.now in
    let ran = c.run_word-done in
    let before = ran.new.opened in
    let after = c.sync_behind.new.opened in
    let T = g.S.Store.types_of first.session.store in
    let state = g.S.Store.state_of before.session.store in
    let lazy : c.args.asked.1.is_lazy ≡ false = search rules in
    let looks : only_looks c.args.asked.0.now ≡ false = search rules in (
      ran.result,
      state,
      before.session.volume,
      subst (λ told. RunsWord T first.folder c.args.asked.0.now first.told told (g.S.Store.state_of first.session.store) state first.session.volume
          before.session.volume ran.result) (sym c.sync_behind.ensures.told) ran.ensures.does,
      is_written _ c.args.asked.1.is_lazy (only_looks c.args.asked.0.now) lazy looks
          (subst (λ types. IsWritten types first.folder ran.result state (g.S.Store.state_of after.session.store) before.session.volume after.session.volume
          c.sync_behind.result) ran.ensures.types
          (subst (λ folder. IsWritten (g.S.Store.types_of before.session.store) folder ran.result state (g.S.Store.state_of after.session.store)
          before.session.volume after.session.volume c.sync_behind.result) ran.ensures.folder c.sync_behind.ensures.written)),
    )
