use Rattle.std.proofs.Common.{ℤ, FitsSigned, inl, inr, refl, rules, subst, w64}
use Rattle.std.proofs.lemmas.Int.{to_z-of_z}
use Rattle.tree_puts.specs.Actions.{Performs}
use Rattle.tree_puts.specs.Arriving.{SetsTime}
use Rattle.tree_puts.specs.Lines.{line_of}
use Rattle.tree_puts.proofs.tree_in.put_regular.Goals as goal

pub returns-in_err-number-clause-does : goal.returns-in_err-number-clause-does
returns-in_err-number-clause-does g c wide =
    let put = c.put_file.ensures in
    inl (c.from_residual.ensures.0, (c.in_err-number.field-0.0, (((put.types, put.folder), c.in_err-number.ensures.does wide, put.told), put.kept)))

pub returns-in_err-note-clause-does : goal.returns-in_err-note-clause-does
returns-in_err-note-clause-does g c wide =
    let put = c.put_file.ensures in
    let now = c.put_file.new.volume in
    let kept = c.put_file.new.self in
    inr (
      c.in_ok-number.number,
      line_of (g.S.Store.types_of now.session.store) (g.S.Store.state_of now.session.store) now.folder now.session.volume now.told kept.linked kept.sources,
      (((put.types, put.folder), c.in_ok-number.ensures.does wide, put.told), put.kept),
      inl (c.from_residual-in_err-note.ensures.0, ((refl, refl), refl, refl, refl, c.in_err-note.ensures.err)),
    )

pub returns-clause-does : goal.returns-clause-does
returns-clause-does g c wide =
    let put = c.put_file.ensures in
    let set = c.set_time.ensures in
    let now = c.put_file.new.volume in
    let kept = c.put_file.new.self in
    let noted = c.note.new.self in
    let after = c.set_time.new.volume in
    let types = g.S.Store.types_of now.session.store in
    let state = g.S.Store.state_of now.session.store in
    let modified = c.args.goods.attributes.now.modified in
    let fits : FitsSigned w64 modified = search rules in
    let back = to_z-of_z w64 modified fits in
    let does = subst (λ (m : ℤ). Performs types now.folder (SetsTime c.in_ok-number.number m c.set_time.result) state
    (g.S.Store.state_of after.session.store) now.session.volume after.session.volume) back set.does in
    inr (
      c.in_ok-number.number,
      line_of types state now.folder now.session.volume now.told kept.linked kept.sources,
      (((put.types, put.folder), c.in_ok-number.ensures.does wide, put.told), put.kept),
      inr (
        line_of types state now.folder now.session.volume now.told noted.linked noted.sources,
        ((refl, refl), refl, refl, refl, c.in_ok-note.ensures.ok),
        (((set.types, set.folder), does, set.told), (refl, refl)),
      ),
    )
