use Rattle.std.proofs.Common.{ℤ, FitsSigned, inl, inr, refl, rules, subst, w64}
use Rattle.std.proofs.lemmas.Int.{to_z-of_z}
use Rattle.tree_puts.specs.Arriving.{SetsTime}
use Rattle.tree_puts.proofs.Performed.{both_done, by_plan}
use Rattle.tree_puts.proofs.arriving.Arriving.put_link.Goals as goal

pub returns-in_err-number-clause-does : goal.returns-in_err-number-clause-does
returns-in_err-number-clause-does g c =
    by_plan c.in_err-number.ensures.does
    (λ actions planned. inr (c.as_bytes-2.result.now, inl (c.from_residual.ensures.0, (c.in_err-number.field-0.0, planned))))

pub returns-clause-does : goal.returns-clause-does
returns-clause-does g c =
    let modified = c.args.goods.attributes.now.modified in
    let fits : FitsSigned w64 modified = search rules in
    let back = to_z-of_z w64 modified fits in
    both_done c.in_ok-number.ensures.does c.put_whole.ensures.types c.put_whole.ensures.folder c.set_time.ensures.does
    (λ before behind one other. inr (
      c.as_bytes-2.result.now,
      inr (
        c.in_ok-number.number,
        before,
        behind,
        refl,
        one,
        subst (λ (m : ℤ). SetsTime c.in_ok-number.number m c.set_time.result behind) back other,
      ),
    ))
