use Rattle.std.proofs.Common.{◌≡◌, rules, FitsSigned, w64, Ok, inl, inr, refl, subst, sym}
use Rattle.std.proofs.lemmas.Int.{to_z-of_z}
use Rattle.tree_lines.specs.Opening.{IsOpened, MendsVolume}
use Rattle.tree_changes.specs.Paths.{IsSame}
use Rattle.xnfs_line.proofs.lines.open_volume.Goals.{then-is_to_mend+in_ok-mend, else-is_to_mend}
use Rattle.xnfs_line.proofs.lines.open_volume.Goals as goal

pub returns-clause-ready : goal.returns-clause-ready
returns-clause-ready g c =
    let T = g.S.Store.types_of c.args.volume.0 in
    let first = c.in_ok-opened.opened in
    let state = g.S.Store.state_of first.session.store in
    let store : c.in_ok-store.store ≡ c.args.volume.0 = search rules in
    let time = c.args.asked.now.time in
    let fits : FitsSigned w64 time = search rules in
    let opened = subst (λ s. IsOpened (g.S.Store.types_of s) (g.S.Store.state_of s) state c.args.asked.now.fs c.args.volume.1 time first.session.volume)
    store (subst (λ t. IsOpened (g.S.Store.types_of c.in_ok-store.store) (g.S.Store.state_of c.in_ok-store.store) state c.args.asked.now.fs
    c.args.volume.1 t first.session.volume) (to_z-of_z w64 time fits) c.in_ok-opened.ensures.ok) in
    let types : g.S.Store.types_of first.session.store ≡ T = search rules in
    let last = c.if-is_to_mend.opened in
    elim c.if-is_to_mend.branch [
      | then-is_to_mend+in_ok-mend w ↦ (
        state,
        first.session.volume,
        opened,
        inr (subst (λ o. MendsVolume T state (g.S.Store.state_of o.session.store) first.session.volume o.session.volume (Ok tt)) (sym w.opened-is)
            (subst (λ t. MendsVolume t state (g.S.Store.state_of w.mend.new.self.session.store) first.session.volume w.mend.new.self.session.volume (Ok tt)) types
            (search rules))),
      )
      | else-is_to_mend w ↦ (
        state,
        first.session.volume,
        opened,
        inl (subst (λ o. IsSame state (g.S.Store.state_of o.session.store) first.session.volume o.session.volume) (sym w.opened-is) (refl, refl)),
      )
    ]
