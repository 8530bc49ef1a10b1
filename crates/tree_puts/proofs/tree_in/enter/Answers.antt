use Rattle.std.proofs.Common.{inl, inr, refl}
use Rattle.std.proofs.lemmas.Result.{err_from_is_err_and}
use Rattle.tree_puts.proofs.tree_in.enter.Goals as goal

pub returns-in_err-number-clause-does : goal.returns-in_err-number-clause-does
returns-in_err-number-clause-does g c =
    let p = err_from_is_err_and c.from_residual-in_err-number.result c.from_residual-in_err-number.ensures.1 in
    rw p.1 (inr (_, c.in_ok-waiting.ensures.does, inl c.in_err-number.ensures.does))

pub returns-in_err-from_str-clause-does : goal.returns-in_err-from_str-clause-does
returns-in_err-from_str-clause-does g c =
    let p = err_from_is_err_and c.from_residual-in_err-from_str.result c.from_residual-in_err-from_str.ensures.1 in
    rw p.1 (inr (_, c.in_ok-waiting.ensures.does, inr (p.2, (_, _, c.in_ok-number.ensures.does))))

pub returns-in_err-from_slice-clause-does : goal.returns-in_err-from_slice-clause-does
returns-in_err-from_slice-clause-does g c =
    let p = err_from_is_err_and c.from_residual-in_err-from_slice.result c.from_residual-in_err-from_slice.ensures.1 in
    rw p.1 (inr (_, c.in_ok-waiting.ensures.does, inr (p.2, (_, _, c.in_ok-number.ensures.does))))

pub returns-clause-does : goal.returns-clause-does
returns-clause-does g c = (_, c.in_ok-waiting.ensures.does, c.in_ok-number.ensures.does, refl)
