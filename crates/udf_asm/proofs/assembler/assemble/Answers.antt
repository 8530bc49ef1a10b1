use Rattle.std.proofs.Common.{◌≡◌, sym, ap, ◌∙◌, inl, inr, refl}
use Rattle.std.specs.Prelude.{Err}
use Rattle.std.proofs.lemmas.Result.{err_from_is_err_and}
use Rattle.udf_asm.specs.Assembly.{assembled}
use Rattle.udf_asm.proofs.Assembled.{assembled_is_text}
use Rattle.udf_asm.proofs.Checks.{words_are, fault_is, lines_fault, fault_refuses}
use Rattle.udf_asm.proofs.assembler.assemble.Goals as goal
use Rattle.udf_asm.proofs.assembler.assemble.Goals.{After-from_residual-in_err-check}

pub returns-in_err-count-clause-refused : goal.returns-in_err-count-clause-refused
returns-in_err-count-clause-refused c =
    let p = err_from_is_err_and c.from_residual.result c.from_residual.ensures.1 in
    let e = ap assembled (sym c.as_bytes.ensures.value) ∙ lines_fault c.as_bytes.result.now _ c.in_err-count.ensures.words in
    rw (p.1, p.2) (inr (fault_refuses c.args.text.now _ e))

whole_fault : (c : After-from_residual-in_err-check) → assembled c.args.text.now ≡ Err c.in_err-check.field-0.0
whole_fault c =
    let w = c.in_ok-count.ensures.words in
    ap assembled (sym c.as_bytes.ensures.value) ∙ fault_is c.as_bytes.result.now w.0 c.in_ok-count.count _ w.1 w.2 (c.in_err-check.ensures w.0 w.2 (c.as_slice.ensures.value ∙ w.3))

pub returns-in_err-check-clause-refused : goal.returns-in_err-check-clause-refused
returns-in_err-check-clause-refused c =
    let p = err_from_is_err_and c.from_residual-in_err-check.result c.from_residual-in_err-check.ensures.1 in
    rw (p.1, p.2) (inr (fault_refuses c.args.text.now _ (whole_fault c)))

pub returns-in_err-check-clause-exact : goal.returns-in_err-check-clause-exact
returns-in_err-check-clause-exact c =
    let p = err_from_is_err_and c.from_residual-in_err-check.result c.from_residual-in_err-check.ensures.1 in
    rw (p.1, p.2) (inr (whole_fault c))

pub returns-in_default-clause-refused : goal.returns-in_default-clause-refused
returns-in_default-clause-refused c =
    let w = c.in_ok-count.ensures.words in
    inl (refl, (_, assembled_is_text c.args.text.now _ (ap assembled (sym c.as_bytes.ensures.value) ∙ words_are c.as_bytes.result.now w.0 _ c.in_ok-count.count w.1 w.3 (c.in_ok-check.ensures w.0 w.2 (c.as_slice.ensures.value ∙ w.3)))))

pub returns-clause-accepted : goal.returns-clause-accepted
returns-clause-accepted c =
    let w = c.in_ok-count.ensures.words in
    rw (c.in-Ok.ensures.items, c.as_slice-2.ensures.value) (assembled_is_text c.args.text.now _ (ap assembled (sym c.as_bytes.ensures.value) ∙ words_are c.as_bytes.result.now w.0 _ c.in_ok-count.count w.1 w.3 (c.in_ok-check.ensures w.0 w.2 (c.as_slice.ensures.value ∙ w.3))))

pub returns-clause-exact : goal.returns-clause-exact
returns-clause-exact c =
    let w = c.in_ok-count.ensures.words in
    rw (c.in-Ok.ensures.items, c.as_slice-2.ensures.value) (ap assembled (sym c.as_bytes.ensures.value) ∙ words_are c.as_bytes.result.now w.0 _ c.in_ok-count.count w.1 w.3 (c.in_ok-check.ensures w.0 w.2 (c.as_slice.ensures.value ∙ w.3)))

pub returns-in_default-clause-exact : goal.returns-in_default-clause-exact
returns-in_default-clause-exact c =
    let w = c.in_ok-count.ensures.words in
    let e = ap assembled (sym c.as_bytes.ensures.value) ∙ words_are c.as_bytes.result.now w.0 _ c.in_ok-count.count w.1 w.3 (c.in_ok-check.ensures w.0 w.2 (c.as_slice.ensures.value ∙ w.3)) in
    inl (refl, rw e refl)
