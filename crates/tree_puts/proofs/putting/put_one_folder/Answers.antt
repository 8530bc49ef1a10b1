use Rattle.std.proofs.Common.{◌==◌, ◌∙◌, ap, inr, length, refl, sym, ℕ, List}
use Rattle.host_trees.specs.Naming.{own_name}
use Rattle.tree_puts.proofs.PutSome.{at_place, named_fills_none, placed_fills_none}
use Rattle.tree_puts.proofs.putting.put_one_folder.Goals.{in_default-via-in-Into+else-is_empty, in_default-via-in_default}
use Rattle.tree_puts.proofs.putting.put_one_folder.Goals as goal

pub returns-in_ok-told-in_default-clause-does : goal.returns-in_ok-told-in_default-clause-does
returns-in_ok-told-in_default-clause-does g c wide =
    let own = own_name c.args.from.0.now in
    at_place own c.args.goal _ _
    (elim c.in_default.branch [
      | in_default-via-in-Into+else-is_empty w ↦ named_fills_none own c.args.goal w.in-Into.number w.in-Into.is
          (ap (λ (l : List ℕ). length l == 0) (sym c.own_name-name.ensures) ∙ (sym w.is_empty.ensures ∙ w.if-is_empty.false))
      | in_default-via-in_default w ↦ placed_fills_none own c.args.goal w.in_default.field-0 w.in_default.is
    ])
    (inr (
      record { place = c.place_by.result; path = c.deref.result; source = c.args.from.0; attributes = c.args.from.1 },
      c.place_by.ensures.goes,
      refl,
      c.fill_at.ensures.does wide,
    ))
