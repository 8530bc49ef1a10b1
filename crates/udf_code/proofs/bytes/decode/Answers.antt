use Rattle.std.proofs.Common.{inl, inr, refl}
use Rattle.std.proofs.lemmas.Result.{err_from_is_err_and}
use Rattle.udf_code.proofs.bytes.decode.Goals as goal

pub returns-in_err-decode_into-clause-refused : goal.returns-in_err-decode_into-clause-refused
returns-in_err-decode_into-clause-refused c =
    let p = err_from_is_err_and c.from_residual.result c.from_residual.ensures.1 in
    rw (p.1, p.2) (inr c.in_err-decode_into.ensures.refused)

pub returns-in_default-clause-refused : goal.returns-in_default-clause-refused
returns-in_default-clause-refused c = inl (refl, (_, c.in_ok-decode_into.ensures.accepted))

pub returns-clause-accepted : goal.returns-clause-accepted
returns-clause-accepted c = rw (c.in-Ok.ensures.items, c.as_slice.ensures.value) c.in_ok-decode_into.ensures.accepted
